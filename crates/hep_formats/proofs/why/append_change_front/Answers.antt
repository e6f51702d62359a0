use Rattle.std.proofs.Common.{◌++◌, ◌∙◌, List, ℕ, ap, codes}
use Rattle.hep_formats.specs.LineWords.{up_to}
use Rattle.hep_formats.specs.Members.{place_members}
use Rattle.hep_formats.proofs.Appended.{two}
use Rattle.hep_formats.proofs.why.append_change_front.Goals as goal

pub returns : goal.returns
returns c =
    let text : List ℕ = c.args.text.now.items in
    let maker = c.up_to.ensures ∙ ap (up_to 44) c.word_at.ensures in
    two text (codes "{\"process\":" ++ c.up_to.result.now) (place_members c.word_at-2.result.now c.word_at-3.result.now)
    c.in_ok-append_word.ensures c.in_ok-append_place.ensures
    ∙ (λ i. text ++ ((codes "{\"process\":" ++ maker i) ++ place_members (c.word_at-2.ensures i) (c.word_at-3.ensures i)))
