-- DO ranges and block IFs, as the code represents them (X3.9-1978, 11.6 to 11.10).
use Rattle.std.specs.Prelude.{List, [], if◌then◌else◌, reverse}
use Rattle.hep_machine.specs.Words.{Statement}
use Rattle.hep_conditions.specs.Nesting as nesting
use Rattle.hep_conditions.specs.Words.{IndexedStatement, is_unconditional, range_by}
use Rattle.hep_control.specs.declared.region.DoRange.{DoRange}
use Rattle.hep_control.specs.declared.blocks.BlockIf.{BlockIf}

abbrev pub do_range : DoRange → nesting.DoRange
do_range r = record { start = r.start; terminal = r.terminal; variable = r.variable }

-- the range of a statement, if it is a DO with a range
abbrev pub range_at : List Statement → IndexedStatement → List nesting.DoRange
range_at unit p = if is_unconditional p.statement then range_by unit p.index p.statement.form else []

abbrev pub block_if : BlockIf → nesting.BlockIf
block_if b = record { start = b.start; divisions = reverse b.divisions.items; has_else = b.has_else; end = b.end }
