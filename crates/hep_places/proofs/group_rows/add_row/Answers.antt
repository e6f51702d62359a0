use Rattle.std.proofs.Common.{List, sym, subst, ◌+◌, ◌-◌}
use Rattle.hep_image.specs.declared.data.DataRow.{DataRow}
use Rattle.hep_places.specs.CellRows.{GivesSome}
use Rattle.hep_places.specs.GroupValues.{left}
use Rattle.hep_places.proofs.InitialRows.{row_given}
use Rattle.hep_places.proofs.group_rows.add_row.Goals as goal

pub returns-clause-gives : goal.returns-clause-gives
returns-clause-gives c =
    subst (λ (rs : List DataRow). GivesSome c.args.cells c.args.rows.now.items (left c.args.values.now) (record { first = c.args.cells.first + c.in-Some.count; count = c.args.cells.count - c.in-Some.count }) rs (left c.take.new.self))
    (sym c.in_ok-push.ensures.items) (row_given c.args.cells c.args.rows.now.items (left c.args.values.now) (left c.take.new.self) c.in-Some.value c.in-Some.count c.in-Some.ensures)
