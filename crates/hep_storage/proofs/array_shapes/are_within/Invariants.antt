use Rattle.std.proofs.Common.{◌≡◌, drop, is_some}
use Rattle.hep_machine.specs.Words.{element_number}
use Rattle.hep_storage.proofs.array_shapes.are_within.Given as goal

abbrev pub invariant-loop-index : goal.invariant-loop-index
invariant-loop-index l = is_some (element_number (drop l.index l.bounds) (drop l.index l.subscripts)) ≡ is_some (element_number l.bounds l.subscripts)
