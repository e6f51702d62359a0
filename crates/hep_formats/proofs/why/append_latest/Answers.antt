use Rattle.std.proofs.Common.{◌++◌, ◌∙◌, List, ℕ, ap, codes}
use Rattle.hep_formats.specs.LineWords.{after_words, word_at}
use Rattle.hep_formats.specs.WhyObjects.{change_object, name_member}
use Rattle.hep_formats.proofs.Appended.{three}
use Rattle.hep_formats.proofs.why.append_latest.Goals as goal

pub returns : goal.returns
returns c =
    let text : List ℕ = c.args.text.now.items in
    let line : List ℕ = c.args.line.now in
    let called = c.word_at.ensures ∙ ap (word_at 1) c.deed.ensures in
    let place = c.after_words.ensures ∙ ap (after_words 3) c.deed-2.ensures in
    three text (name_member c.word_at.result.now) (codes ",\"last\":") (change_object line c.after_words.result.now)
    c.in_ok-append_name.ensures c.in_ok-extend_from_slice.ensures.items c.in_ok-append_change.ensures
    ∙ (λ i. text ++ (name_member (called i) ++ codes ",\"last\":" ++ change_object line (place i)))
