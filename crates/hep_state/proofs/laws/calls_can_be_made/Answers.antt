use Rattle.std.proofs.Common.{sym, subst, ◌∙◌}
use Rattle.hep_machine.specs.Words.{unit_at}
use Rattle.hep_image.specs.Arrays.{ArePlacedArrays}
use Rattle.hep_step.specs.ReadyToPass.{ArePassable}
use Rattle.hep_step.specs.StepReady.{frame_in_arena}
use Rattle.hep_state.specs.Words.{top_frame}
use Rattle.hep_state.proofs.CallerRoom.{as-many, called-inside, caller_at, calls, calls-so, operands-few, passed-by}
use Rattle.hep_state.proofs.SilentTurns.{unit-is}
use Rattle.hep_state.proofs.laws.calls_can_be_made.Goals as goal

pub returns-clause-inside : goal.returns-clause-inside
returns-clause-inside c t call accepted main at = called-inside call at (c.programs_are_known.ensures t.program accepted main)

pub returns-clause-counted : goal.returns-clause-counted
returns-clause-counted c t call accepted main at =
    let k = c.programs_are_known.ensures t.program accepted main in
    (calls call at k).counted ∙ as-many call at k

pub returns-clause-framed : goal.returns-clause-framed
returns-clause-framed c t call accepted main few at =
    let k = c.programs_are_known.ensures t.program accepted main in
    c.callers_can_pass.ensures.frame (caller_at at.step) (calls-so at.step k.running) at.step.turning.after.shows.keeps.memory few

pub returns-clause-passable : goal.returns-clause-passable
returns-clause-passable c t call accepted main at =
    let k = c.programs_are_known.ensures t.program accepted main in
    let ahead = calls call at k in
    let placed = subst (λ u. ArePlacedArrays t.program (unit_at t.program u)) (sym (unit-is at.step.turning)) (c.tops_are_running.ensures.arrays t accepted main at.step.turning) in
    passed-by call at k (λ xs ps. ArePassable t.machine.arena xs (frame_in_arena (top_frame t)) ps) (
    c.callers_can_pass.ensures.actuals (caller_at at.step) ahead.actuals ahead.more (calls-so at.step k.running) at.step.turning.after.shows.keeps.memory placed)

pub returns-clause-few : goal.returns-clause-few
returns-clause-few c t call accepted main at = operands-few at.step.turning
