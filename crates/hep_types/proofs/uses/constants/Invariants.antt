use Rattle.std.proofs.Common.{◌≡◌, ◌++◌, drop}
use Rattle.hep_machine.specs.Words.{names_of_constants}
use Rattle.hep_types.proofs.uses.constants.Given as goal

abbrev pub invariant-loop-constant : goal.invariant-loop-constant
invariant-loop-constant l = l.names.items ++ names_of_constants (drop l.constant-index l.constants) ≡ names_of_constants l.constants
