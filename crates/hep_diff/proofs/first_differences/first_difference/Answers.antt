use Rattle.std.proofs.Common.{◌⊎◌, inl, inr, ◌≤◌, ◌∙◌, length, sym, arith}
use Rattle.hep_diff.proofs.FirstDifferences.{first-is}
use Rattle.hep_diff.proofs.first_differences.first_difference.Goals.{then-loop-at-test+else-at-second, else-loop-at-test}
use Rattle.hep_diff.proofs.first_differences.first_difference.Goals as goal

pub returns-else-first-second : goal.returns-else-first-second
returns-else-first-second c =
    let i = c.loop-at.invariant in
    let past : (length c.args.first.now ≤ c.loop-at.at) ⊎ (length c.args.second.now ≤ c.loop-at.at) = elim c.loop-at-test.branch [
      | then-loop-at-test+else-at-second w ↦ inr (omega (arith, w.if-at-second.false))
      | else-loop-at-test w ↦ inl (omega (arith, w.loop-at-test.false))
    ] in
    first-is c.loop-at.at c.args.first.now c.args.second.now i.within i.within_other past (λ e. c.if-first-second.false e) ∙ sym i.so_far
