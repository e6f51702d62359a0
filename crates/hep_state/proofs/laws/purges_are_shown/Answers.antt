use Rattle.std.proofs.Common.{◌≡◌, true, Ok, Err, is_some}
use Rattle.hep_machine.specs.Words.{main_among}
use Rattle.hep_conditions.specs.Words.{IsAccepted}
use Rattle.hep_code.specs.Words.{passed_from}
use Rattle.hep_step.specs.PurgeEffects.{effect_of_purge}
use Rattle.hep_step.specs.Simulation.{arrays_on_top}
use Rattle.hep_state.specs.declared.next_step.NextPurge.{NextPurge}
use Rattle.hep_state.specs.Words.{IsAtPurge, IsEffectOf, TurnOf, top_before, top_frame, running_top}
use Rattle.hep_state.proofs.CallerRoom.{ahead-on-top, calls-so, runs}
use Rattle.hep_state.proofs.Purging.{does-so, entries-placed, fault-ends, gaps-there, nothing-purged, ranges-purged, ranges-stepped}
use Rattle.hep_state.proofs.laws.purges_are_shown.Goals as goal

simulated : goal.After-programs_are_known → (t : TurnOf) (purge : NextPurge) → IsAccepted t.program → is_some (main_among t.program) ≡ true → (at : IsAtPurge t purge)
    → IsEffectOf t at.turning (effect_of_purge (arrays_on_top t.program (top_before t)) (top_frame t).first purge.line purge.next (passed_from purge.count at.behind t.operands) t.machine.arena.contents)
simulated c t purge accepted main at =
    let k = (c.programs_are_known.ensures t.program accepted main).running in
    let placed = entries-placed purge at (λ i x there is. c.variables_of_the_code_are_placed.ensures.all t.program t.level.unit i x accepted there is) in
    c.purges_do_what_the_machine_does.ensures (running_top t at.turning) purge.line purge.count purge.next at.behind (runs at k) (calls-so at k) placed (ahead-on-top at)

pub returns-clause-stepped : goal.returns-clause-stepped
returns-clause-stepped c t purge ranges accepted main at e =
    let r = c.ranges_are_emptied.ensures in
    ranges-stepped at.turning r.within r.elsewhere r.cells ranges purge.next (does-so purge at (simulated c t purge accepted main at) (Ok ranges) e)

pub returns-clause-purged : goal.returns-clause-purged
returns-clause-purged c t purge ranges accepted main at e =
    let r = c.ranges_are_emptied.ensures in
    ranges-purged at.turning r.within r.elsewhere r.cells ranges purge.next (does-so purge at (simulated c t purge accepted main at) (Ok ranges) e)

pub returns-clause-range : goal.returns-clause-range
returns-clause-range c t purge kind accepted main at e = fault-ends purge at kind (does-so purge at (simulated c t purge accepted main at) (Err kind) e)

pub returns-clause-nothing : goal.returns-clause-nothing
returns-clause-nothing c t line kind ends = nothing-purged ends.turning line kind ends.simulated

pub returns-clause-gaps : goal.returns-clause-gaps
returns-clause-gaps c t purge accepted main at =
    let r = c.ranges_are_emptied.ensures in
    let sim = simulated c t purge accepted main at in
    gaps-there purge at (λ kind ends. c.gaps_are_told.ensures.fault t purge.line kind ends)
    (λ ranges e. ranges-stepped at.turning r.within r.elsewhere r.cells ranges purge.next (does-so purge at sim (Ok ranges) e))
    (λ kind e. fault-ends purge at kind (does-so purge at sim (Err kind) e))
