use Rattle.std.proofs.Common.{◌≡◌, ◌++◌, drop}
use Rattle.hep_machine.specs.Data as machine
use Rattle.hep_names.specs.Statements.{rest_after}
use Rattle.hep_places.proofs.group_list.data_groups.Given as goal

abbrev pub invariant-loop-statement : goal.invariant-loop-statement
invariant-loop-statement l = rest_after l.found.items ++ machine.data_groups (drop l.statement-index l.unit) ≡ machine.data_groups l.unit
