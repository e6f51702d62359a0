use Rattle.std.proofs.Common.{◌≡◌, ◌+◌, drop}
use Rattle.hep_machine.specs.Words.{executable_from, passed_over}
use Rattle.hep_lower.proofs.unit.first_executable.Given as goal

abbrev pub invariant-loop-index : goal.invariant-loop-index
invariant-loop-index l = l.index + passed_over (drop l.index l.statements) ≡ executable_from l.statements 0
