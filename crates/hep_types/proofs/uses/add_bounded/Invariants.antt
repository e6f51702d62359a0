use Rattle.std.proofs.Common.{◌≡◌, ◌++◌, drop}
use Rattle.hep_types.specs.Uses.{names_bounded}
use Rattle.hep_types.proofs.uses.add_bounded.Given as goal

abbrev pub invariant-loop-declarator : goal.invariant-loop-declarator
invariant-loop-declarator l = l.names.items ++ names_bounded (drop l.declarator-index l.declarators) ≡ l.initial.names.items ++ names_bounded l.declarators
