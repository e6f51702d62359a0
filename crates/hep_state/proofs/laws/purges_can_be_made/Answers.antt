use Rattle.std.proofs.Common.{sym, subst}
use Rattle.hep_machine.specs.Words.{unit_at}
use Rattle.hep_code.specs.Words.{passed_from}
use Rattle.hep_image.specs.Arrays.{ArePlacedArrays}
use Rattle.hep_step.specs.ReadyToPass.{ArePassable}
use Rattle.hep_step.specs.PurgeReady.{AreOut}
use Rattle.hep_step.specs.StepReady.{frame_in_arena}
use Rattle.hep_state.specs.Words.{top_frame, running_top}
use Rattle.hep_state.proofs.CallerRoom.{ahead-on-top, calls-so, runs}
use Rattle.hep_state.proofs.SilentTurns.{unit-is}
use Rattle.hep_state.proofs.Purging.{of-arrays}
use Rattle.hep_state.proofs.laws.purges_can_be_made.Goals as goal

pub returns-clause-framed : goal.returns-clause-framed
returns-clause-framed c t purge accepted main few at =
    let k = (c.programs_are_known.ensures t.program accepted main).running in
    c.purges_are_ready.ensures.frame (running_top t at.turning) (runs at k) (calls-so at k) few

pub returns-clause-passable : goal.returns-clause-passable
returns-clause-passable c t purge accepted main at =
    let k = (c.programs_are_known.ensures t.program accepted main).running in
    let placed = subst (λ u. ArePlacedArrays t.program (unit_at t.program u)) (sym (unit-is at.turning)) (c.tops_are_running.ensures.arrays t accepted main at.turning) in
    of-arrays purge at (λ xs. ArePassable t.machine.arena xs (frame_in_arena (top_frame t)) (passed_from purge.count at.behind t.operands)) (
    c.purges_are_ready.ensures.passable (running_top t at.turning) purge.line purge.count purge.next at.behind (runs at k) (calls-so at k) placed (ahead-on-top at))

pub returns-clause-out : goal.returns-clause-out
returns-clause-out c t purge accepted main at =
    let k = (c.programs_are_known.ensures t.program accepted main).running in
    of-arrays purge at (λ xs. AreOut t.machine.arena xs (frame_in_arena (top_frame t)) (passed_from purge.count at.behind t.operands)) (
    c.purges_are_ready.ensures.out (running_top t at.turning) purge.line purge.count purge.next at.behind (runs at k) (calls-so at k) (ahead-on-top at))
