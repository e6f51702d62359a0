use Rattle.std.proofs.Common.{◌≡◌, ◌++◌, drop}
use Rattle.hep_machine.specs.Words.{names_declared}
use Rattle.hep_names.proofs.specification.add_declared.Given as goal

abbrev pub invariant-loop-declarator : goal.invariant-loop-declarator
invariant-loop-declarator l = l.names.items ++ names_declared (drop l.declarator-index l.declarators) ≡ l.initial.names.items ++ names_declared l.declarators
