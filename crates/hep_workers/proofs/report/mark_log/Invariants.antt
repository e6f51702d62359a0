use Rattle.std.proofs.Common.{◌≡◌, drop}
use Rattle.hep_workers.specs.ReceiptMarks.{marked}
use Rattle.hep_workers.proofs.report.mark_log.Given as goal

abbrev pub invariant-loop-receipt : goal.invariant-loop-receipt
invariant-loop-receipt l = record {
  marks : marked l.history.items l.named.items (drop l.receipt-index l.receipts) ≡ marked l.fn.history.items l.fn.named.items l.fn.receipts;
  same : l.finder ≡ l.history.items;
}
