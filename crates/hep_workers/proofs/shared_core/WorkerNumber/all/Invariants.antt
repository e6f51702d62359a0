use Rattle.std.proofs.Common.{◌≡◌, map}
use Rattle.hep_workers.specs.EntrySpans.{worker_numbers}
use Rattle.hep_workers.proofs.shared_core.WorkerNumber.all.Given as goal

abbrev pub invariant-loop-worker : goal.invariant-loop-worker
invariant-loop-worker g l = map (λ seat. seat.number) l.seats.items ≡ worker_numbers l.worker
