use Rattle.hep_places.specs.CellRows.{GivesSome}
use Rattle.hep_places.specs.GroupValues.{left}
use Rattle.hep_places.proofs.group_rows.add_rows.Given as goal

abbrev pub invariant-loop-rest : goal.invariant-loop-rest
invariant-loop-rest l = GivesSome l.fn.cells l.initial.rows.items (left l.initial.values) l.rest l.rows.items (left l.values)

abbrev pub decreases-loop-rest : goal.decreases-loop-rest
decreases-loop-rest l = l.rest.count
