use Rattle.std.proofs.Common.{◌<◌, List, [], None, length, refl, sym, subst}
use Rattle.hep_machine.specs.Words.{Value, unit_of}
use Rattle.hep_code.specs.declared.instruction.Operation.TheVariants.{Resume}
use Rattle.hep_state.specs.Words.{HasMadeTurn, running_top, snapshot_moved, state_before}
use Rattle.hep_state.proofs.CallerRoom.{ahead-on-top}
use Rattle.hep_state.proofs.Changes.{none-ahead}
use Rattle.hep_state.proofs.SilentTurns.{moved-shown, result-is, unit-is}
use Rattle.hep_state.proofs.Subroutines.{resumes-without-result}
use Rattle.hep_state.proofs.TakenTurns.{inside}
use Rattle.hep_state.proofs.ResumeTurns.{caller-there, none-below, resumed-gap, resumed-shown}
use Rattle.hep_state.proofs.laws.resumes_are_shown.Goals as goal

pub returns-clause-apart : goal.returns-clause-apart
returns-clause-apart c t next l ls accepted main at some =
    let turning = at.1.turning in
    let runs = c.tops_are_running.ensures.running t accepted main turning in
    let caller = caller-there turning l ls some in
    let ahead = c.resumes_are_ahead.ensures.ahead (running_top t turning) at.0 next at.1.behind runs (ahead-on-top at.1) in
    let u = unit_of (state_before t) t.top.0.activation in
    let within : u < length t.program = subst (λ v. v < length t.program) (sym (unit-is turning)) (inside turning) in
    let from = c.works_come_from_statements.ensures.top t.program t.choices t.process t.top turning.lives in
    let none = result-is turning None (resumes-without-result t.program u t.top.0.statement t.top.0.work accepted within from ahead.does_so) in
    resumed-shown turning next ahead none caller.0 caller.1 caller.2

pub returns-clause-lowest : goal.returns-clause-lowest
returns-clause-lowest c t next accepted main at lowest =
    let runs = c.tops_are_running.ensures.running t accepted main at.1.turning in
    let r = running_top t at.1.turning in
    let ahead = c.resumes_are_ahead.ensures.ahead r at.0 next at.1.behind runs (ahead-on-top at.1) in
    let goes = c.resumes_are_ahead.ensures.lowest r at.0 next at.1.behind runs (ahead-on-top at.1) (none-below at.1.turning lowest) in
    subst (λ (vs : List Value). HasMadeTurn t (snapshot_moved t t.machine.arena.contents vs next)) (sym ahead.alone) (moved-shown at.1.turning t.machine.arena.contents [] next refl goes)

pub returns-clause-nothing : goal.returns-clause-nothing
returns-clause-nothing c t next accepted main at =
    let runs = c.tops_are_running.ensures.running t accepted main at.1.turning in
    none-ahead at.1.turning runs at.0 (Resume next) at.1.behind (ahead-on-top at.1) refl

pub returns-clause-gaps : goal.returns-clause-gaps
returns-clause-gaps c t next accepted main at =
    let runs = c.tops_are_running.ensures.running t accepted main at.1.turning in
    resumed-gap at.1.turning next (c.resumes_are_ahead.ensures.ahead (running_top t at.1.turning) at.0 next at.1.behind runs (ahead-on-top at.1))
