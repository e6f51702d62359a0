use Rattle.std.proofs.Common.{◌+◌, ◌++◌, length-append, take, arith}
use Rattle.std.proofs.KnownBytes.{Consumes-trans}
use Rattle.hep_outcome.proofs.Wanted.{on-err-anyway}
use Rattle.hep_run.proofs.input.read_input.Goals as goal

pub returns-in_err-extend_from_slice-in-Ok-clause-lost : goal.returns-in_err-extend_from_slice-in-Ok-clause-lost
returns-in_err-extend_from_slice-in-Ok-clause-lost g c =
    let taken = take c.in-Ok.count c.read.new.buf in
    on-err-anyway c.from_residual.result (
      c.loop-call.bytes.items ++ taken,
      Consumes-trans _ _ _ _ _ c.loop-call.invariant.first c.in-Ok.ensures.bytes.0,
      omega (arith, c.loop-call.invariant.within, c.in-Ok.ensures.bound.0, c.in-Ok.ensures.bound.1, length-append c.loop-call.bytes.items taken),
    )
