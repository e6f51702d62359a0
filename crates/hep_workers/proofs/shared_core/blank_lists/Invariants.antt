use Rattle.std.proofs.Common.{◌≡◌, [], replicate, vec_len}
use Rattle.hep_workers.specs.EntrySpans.{lists_of}
use Rattle.hep_workers.proofs.shared_core.blank_lists.Given as goal

abbrev pub invariant-loop-worker : goal.invariant-loop-worker
invariant-loop-worker l = (vec_len l.lists ≡ l._worker) × (lists_of l.lists.items ≡ replicate l._worker [])
