use Rattle.std.proofs.Common.{◌≡◌, drop}
use Rattle.hep_workers.specs.ReceiptMarks.{marked}
use Rattle.hep_workers.specs.Receipts.{receipts_of}
use Rattle.hep_workers.proofs.report.mark_logs.Given as goal

abbrev pub invariant-loop-log : goal.invariant-loop-log
invariant-loop-log l =
    marked l.history.items l.named.items (receipts_of (drop l.log-index l.logs)) ≡ marked l.fn.history.items l.fn.named.items (receipts_of l.fn.logs)
