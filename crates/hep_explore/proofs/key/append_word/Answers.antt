use Rattle.std.proofs.Common.{◌≡◌, ◌∙◌, ◌∷◌, ◌++◌, [], ◌+◌, ◌%◌, ◌/◌, ap, append_assoc, arith, sym}
use Rattle.hep_explore.specs.Keys.{groups_of}
use Rattle.hep_explore.proofs.ByteGroups.{lowest-group, one-group}
use Rattle.hep_explore.proofs.key.append_word.Goals as goal

pub loop-left-preserved : goal.loop-left-preserved
loop-left-preserved c =
    let left = c.loop-left.left in
    let bytes = c.loop-left.bytes.items in
    let before = c.loop-left.invariant in
    let next = lowest-group before.0 left (omega (arith, c.loop-left-test.true)) before.1 in (
      next.0,
      next.1,
      ap (λ bs. bs ++ groups_of next.0 (left / 128)) c.in_ok-push.ensures.items
          ∙ append_assoc bytes ((left % 128 + 128) ∷ []) (groups_of next.0 (left / 128))
          ∙ ap (λ bs. bytes ++ bs) (sym next.2)
          ∙ before.2,
    )

pub returns : goal.returns
returns c =
    let left = c.loop-left.left in
    let bytes = c.loop-left.bytes.items in
    let before = c.loop-left.invariant in
    c.in_ok-push-2.ensures.items
    ∙ ap (λ bs. bytes ++ bs) (sym (one-group before.0 left (omega (arith, c.loop-left-test.false))))
    ∙ before.2
