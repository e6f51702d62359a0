use Rattle.std.proofs.Common.{◌≡◌, ◌++◌}
use Rattle.hep_workers.specs.Spans.{receipts_in}
use Rattle.hep_workers.proofs.spans.add_receipts.Given as goal

abbrev pub invariant-loop-past : goal.invariant-loop-past
invariant-loop-past l = record {
  items : l.receipts.items ≡ l.fn.receipts.items ++ receipts_in l.fn.finder l.worker l.span.first l.past;
  same : l.finder ≡ l.fn.finder;
}
