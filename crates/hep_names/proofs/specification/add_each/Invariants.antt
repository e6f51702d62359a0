use Rattle.std.proofs.Common.{◌≡◌, ◌++◌, drop}
use Rattle.hep_names.specs.Statements.{rest_after}
use Rattle.hep_names.specs.Tables.{arrays_among}
use Rattle.hep_names.proofs.specification.add_each.Given as goal

abbrev pub invariant-loop-declarator : goal.invariant-loop-declarator
invariant-loop-declarator l = rest_after l.found.items ++ arrays_among (drop l.declarator-index l.declarators) ≡ rest_after l.initial.found.items ++ arrays_among l.declarators
