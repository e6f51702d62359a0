use Rattle.std.proofs.Common.{◌≤◌, vec_len}
use Rattle.std.specs.List.{AllWithin}
use Rattle.hep_machine.specs.Words.{last_process}
use Rattle.hep_workers.specs.WorkBuffers.{IsBatchOf}
use Rattle.hep_workers.proofs.threads.WorkerPool.commit_all.Given as goal

abbrev pub invariant-loop-next : goal.invariant-loop-next
invariant-loop-next g l =
    (l.made ≤ vec_len l.batches)
    × AllWithin (IsBatchOf g.K.RunBrand.opening.program (last_process l.core.core.core.history)) l.batches.items l.next l.made
