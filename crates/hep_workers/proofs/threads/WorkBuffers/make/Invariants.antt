use Rattle.std.proofs.Common.{◌≤◌, vec_len}
use Rattle.std.specs.List.{AllWithin}
use Rattle.hep_workers.specs.WorkBuffers.{IsBatchOf}
use Rattle.hep_workers.proofs.threads.WorkBuffers.make.Given as goal

abbrev pub invariant-loop-made : goal.invariant-loop-made
invariant-loop-made g l =
    (l.made ≤ vec_len l.batches)
    × AllWithin (IsBatchOf g.K.RunBrand.opening.program l.stand.ticket.id.process) l.batches.items 0 l.made
