use Rattle.std.proofs.Common.{◌∙◌, ap, sym}
use Rattle.hep_core.specs.CoreValues.{CoreValue}
use Rattle.hep_page.specs.declared.change_log.ChangeLog.{ChangeLog}
use Rattle.hep_page.proofs.NotedTurns.{along-next, noted-next}
use Rattle.hep_page.proofs.change_log.note_turn.Goals as goal

pub make_turn-requires-clause-standing : goal.make_turn-requires-clause-standing
make_turn-requires-clause-standing c = c.requires.1.standing

pub make_turn-requires-clause-next : goal.make_turn-requires-clause-next
make_turn-requires-clause-next c = c.requires.1.next.0

pub survey-requires : goal.survey-requires
survey-requires c = c.requires.1.symbols ∙ ap (λ (core : CoreValue). core.program) (sym c.in_ok-make_turn.ensures)

pub returns-clause-along : goal.returns-clause-along
returns-clause-along c left h =
    let log : ChangeLog = record { core = c.make_turn.new.core; parts = c.in_ok-parts.parts; text = c.append_change.new.text } in
    along-next c.args.known.now c.args.log.now log c.args.turn left h c.in_ok-make_turn.ensures c.in_ok-parts.ensures

pub returns-clause-noted : goal.returns-clause-noted
returns-clause-noted c left h =
    let log : ChangeLog = record { core = c.make_turn.new.core; parts = c.in_ok-parts.parts; text = c.append_change.new.text } in
    noted-next c.args.known.now c.args.log.now log c.args.turn left h c.in_ok-make_turn.ensures c.in_ok-parts.ensures c.in_ok-append_change.ensures
