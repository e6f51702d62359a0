use Rattle.std.proofs.Common.{◌≡◌, ◌-◌, drop}
use Rattle.hep_workers.specs.Receipts.{rises}
use Rattle.hep_workers.proofs.report.rises.Given as goal

abbrev pub invariant-loop-i : goal.invariant-loop-i
invariant-loop-i l = rises (drop (l.i - 1) l.receipts) ≡ rises l.fn.receipts
