use Rattle.std.proofs.Common.{◌∙◌, drop, sym}
use Rattle.hep_commit.proofs.PutBackCells.{with-none}
use Rattle.hep_commit.proofs.slots.put_slots.Goals as goal

pub returns-in_default : goal.returns-in_default
returns-in_default c = sym (with-none c.args.first (drop c.loop-cell.cell-index c.args.cells.now) c.loop-cell.rest.now c.loop-cell.slots c.in_default.ensures.cases) ∙ c.loop-cell.invariant
