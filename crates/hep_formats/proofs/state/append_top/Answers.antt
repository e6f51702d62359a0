use Rattle.std.proofs.Common.{◌++◌, ◌∙◌, List, ℕ, codes}
use Rattle.hep_formats.specs.StateObjects.{level_members, wait_members}
use Rattle.hep_formats.proofs.Appended.{two, three}
use Rattle.hep_formats.proofs.state.append_top.Goals as goal

pub returns : goal.returns
returns c =
    let text : List ℕ = c.args.text.now.items in
    let owner : List ℕ = codes "{" ++ c.args.owner.now in
    let level : List ℕ = level_members c.word_at.result.now c.word_at-2.result.now c.word_at-3.result.now in
    let waits : List ℕ = wait_members c.args.line.now in
    two text (owner ++ level ++ waits) (codes "}\n")
    (three text owner level waits c.in_ok-append_word.ensures c.in_ok-append_level.ensures c.in_ok-append_wait.ensures)
    c.in_ok-extend_from_slice.ensures.items
    ∙ (λ i. text ++ (owner ++ level_members (c.word_at.ensures i) (c.word_at-2.ensures i) (c.word_at-3.ensures i) ++ waits ++ codes "}\n"))
