use Rattle.std.proofs.Common.{◌++◌, ◌∙◌, List, ℕ, codes}
use Rattle.hep_formats.specs.Members.{place_members, wanted_members}
use Rattle.hep_formats.proofs.Appended.{three}
use Rattle.hep_formats.proofs.why.append_waiting.Goals as goal

pub returns : goal.returns
returns c =
    let text : List ℕ = c.args.text.now.items in
    three text (codes "}\n{\"process\":" ++ c.word_at.result.now) (place_members c.word_at-2.result.now c.word_at-3.result.now)
    (wanted_members c.after_words.result.now) c.in_ok-append_word.ensures c.in_ok-append_place.ensures c.in_ok-append_wanted.ensures
    ∙ (λ i. text
    ++ ((codes "}\n{\"process\":" ++ c.word_at.ensures i)
    ++ place_members (c.word_at-2.ensures i) (c.word_at-3.ensures i) ++ wanted_members (c.after_words.ensures i)))
