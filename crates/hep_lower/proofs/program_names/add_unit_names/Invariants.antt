use Rattle.std.proofs.Common.{◌≡◌, ◌++◌, map, drop}
use Rattle.hep_machine.specs.Words.{unit_name}
use Rattle.hep_lower.proofs.program_names.add_unit_names.Given as goal

abbrev pub invariant-loop-unit : goal.invariant-loop-unit
invariant-loop-unit l = l.names.items ++ map unit_name (drop l.unit-index l.list) ≡ l.initial.names.items ++ map unit_name l.list
