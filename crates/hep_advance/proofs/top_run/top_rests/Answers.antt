use Rattle.std.proofs.Common.{◌≡◌, ◌<◌, ◌∙◌, true, sym, subst, length}
use Rattle.hep_machine.specs.Words.{common_cells, frame_cells, unit_at}
use Rattle.hep_step.specs.PerformedSteps.{snapshot}
use Rattle.hep_step.specs.Simulation.{unit_arrays, unit_code}
use Rattle.hep_proc.specs.declared.process.Local.{Local}
use Rattle.hep_proc.proofs.Levels.{some-levels}
use Rattle.hep_fast.specs.DecodedCode.{known_at}
use Rattle.hep_fast.specs.Interpreter.{is_not_plain}
use Rattle.hep_fast.specs.DecodedImages.{IsTable}
use Rattle.hep_fast.proofs.Steps.{rests}
use Rattle.hep_state.specs.Words.{node_under}
use Rattle.hep_advance.proofs.top_run.top_rests.Goals as goal

pub top-level-requires : goal.top-level-requires
top-level-requires c =
    let r = c.requires in
    some-levels c.args.process.now r.l r.ls r.operands r.pending r.stack

pub table-table-requires-clause-tables : goal.table-table-requires-clause-tables
table-table-requires-clause-tables c = c.requires.tables

pub table-table-requires-clause-inside : goal.table-table-requires-clause-inside
table-table-requires-clause-inside c =
    let r = c.requires in
    subst (λ (l : Local). l.unit < length c.args.tabled.now.image.now) (sym (c.top-level.ensures r.l r.ls r.operands r.pending r.stack)) r.inside

pub returns : goal.returns
returns c is l ls operands pending stack nodes contents =
    let program = c.args.tabled.now.image.now in
    let same = c.top-level.ensures l ls operands pending stack in
    let table = c.table-table.result.now in
    let known = subst (λ (k : Local). IsTable program k.unit table) same c.table-table.ensures in
    let other = subst (λ (k : Local). is_not_plain (known_at table.known.items k.index) ≡ true) same (sym c.rests.ensures ∙ is) in
    rests (unit_code program l.unit) (unit_arrays program l.unit) (node_under nodes l.key).first (frame_cells (unit_at program l.unit)) (common_cells program)
    (snapshot contents operands l.index) (known_at table.known.items l.index) other (known.known l.index)
