use Rattle.std.proofs.Common.{◌++◌, ◌∙◌, List, ℕ, ap, codes}
use Rattle.hep_formats.specs.LineWords.{after_words}
use Rattle.hep_formats.specs.WhyObjects.{change_object}
use Rattle.hep_formats.proofs.Appended.{two}
use Rattle.hep_formats.proofs.why.append_brought.Goals as goal

pub returns : goal.returns
returns c =
    let text : List ℕ = c.args.text.now.items in
    let line : List ℕ = c.args.line.now in
    let place = c.after_words.ensures ∙ ap (after_words 4) c.deed.ensures in
    two text (codes ",\"brought\":") (change_object line c.after_words.result.now)
    c.in_ok-extend_from_slice.ensures.items c.in_ok-append_change.ensures
    ∙ (λ i. text ++ (codes ",\"brought\":" ++ change_object line (place i)))
