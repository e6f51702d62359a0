use Rattle.std.proofs.Common.{◌≡◌, ◌+◌, drop}
use Rattle.hep_workers.specs.Receipts.{are_numbered}
use Rattle.hep_workers.proofs.log_numbers.are_in_order.Given as goal

abbrev pub invariant-loop-i : goal.invariant-loop-i
invariant-loop-i l = are_numbered (l.i + 1) (drop l.i l.logs) ≡ are_numbered 1 l.fn.logs
