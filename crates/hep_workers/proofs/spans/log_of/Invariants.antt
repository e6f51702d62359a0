use Rattle.std.proofs.Common.{◌≡◌, ◌++◌, drop}
use Rattle.hep_workers.specs.Spans.{log_of}
use Rattle.hep_workers.proofs.spans.log_of.Given as goal

abbrev pub invariant-loop-span : goal.invariant-loop-span
invariant-loop-span l = record {
  rest : l.receipts.items ++ log_of l.history.items l.worker (drop l.span-index l.spans) ≡ log_of l.history.items l.worker l.spans;
  same : l.finder ≡ l.history.items;
}
