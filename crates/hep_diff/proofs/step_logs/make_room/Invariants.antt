use Rattle.std.proofs.Common.{◌≡◌, ◌+◌, ◌-◌, ℕ, length}
use Rattle.hep_diff.specs.StepLogs.{kept_of}
use Rattle.hep_diff.proofs.step_logs.make_room.Given as goal

abbrev pub invariant-loop-alloc : goal.invariant-loop-alloc
invariant-loop-alloc l = (q : ℕ) → kept_of l.logs.items q ≡ kept_of l.fn.logs.items q

abbrev pub decreases-loop-alloc : goal.decreases-loop-alloc
decreases-loop-alloc l = l.p + 1 - length l.logs.items
