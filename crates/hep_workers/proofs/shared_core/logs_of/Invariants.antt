use Rattle.std.proofs.Common.{◌≡◌, ◌+◌, ◌++◌, drop}
use Rattle.hep_workers.specs.EntrySpans.{lists_of, logs_of}
use Rattle.hep_workers.proofs.shared_core.logs_of.Given as goal

abbrev pub invariant-loop-i : goal.invariant-loop-i
invariant-loop-i l = l.logs.items ++ logs_of l.history.items (l.i + 1) (lists_of (drop l.i l.lists)) ≡ logs_of l.history.items 1 (lists_of l.lists)
