use Rattle.std.proofs.Common.{List, [], ◌∷◌, ◌++◌, ap, ◌∙◌, subst, sym, arith}
use Rattle.hep_machine.specs.declared.event.Entry.{Entry}
use Rattle.hep_machine.specs.Words.{schedule_of}
use Rattle.hep_state.proofs.ProcessNumbers.{length-stacks}
use Rattle.hep_state.specs.declared.turn.TurnFault.{TurnFault}
use Rattle.hep_state.specs.declared.turn.TurnOutcome.{TurnOutcome}
use Rattle.hep_state.specs.Words.{HasTurned, IsMachineAfter, IsUnturned, snapshot_of}
use Rattle.hep_fold.specs.ReplayMachines.{made_by}
use Rattle.hep_fold.proofs.MachineTurns.{living-now, not-full, not-waiting, running-now, stepped}
use Rattle.hep_fold.proofs.TurnRows.{schedule-many}
use Rattle.hep_fold.proofs.replay_machine.ReplayMachine.turn.Goals as goal

pub turn-requires : goal.turn-requires
turn-requires c =
    let h = c.requires in
    let self = c.args.self.now in
    let program = c.args.image.now in
    let choices = made_by self in
    record {
      turn = record {
        after = (h.cells, choices, h.after);
        running = running-now program c.args.p self h;
        living = living-now program c.args.p self h;
      };
      countable = omega (
        arith,
        c.activations_are_few.ensures.activations program h.cells choices (snapshot_of self.machine) h.after.after,
        h.few,
      );
      numerable = omega (
        arith,
        c.activations_are_few.ensures.processes program h.cells choices (snapshot_of self.machine) h.after.after,
        length-stacks self.machine.processes.items 1 self.machine.made,
        h.few,
      );
      numbers = h.numbers;
    }

pub unreachable-requires : goal.unreachable-requires
unreachable-requires c =
    let h = c.requires in
    let self = c.args.self.now in
    let program = c.args.image.now in
    not-waiting program c.args.p self h _ c.turn.new.self (
    subst (λ (t : TurnOutcome). HasTurned program h.cells (made_by self) c.args.p t c.turn.new.self) c.in-Waits.is (
    c.in-Ok.ensures.turned h.cells (made_by self) h.after))

pub unreachable-requires-in-Err-ArenaFull : goal.unreachable-requires-in-Err-ArenaFull
unreachable-requires-in-Err-ArenaFull c =
    let h = c.requires in
    let self = c.args.self.now in
    let program = c.args.image.now in
    not-full program c.args.p self h (
    subst (λ (e : TurnFault). IsUnturned e program h.cells (made_by self) c.args.p) c.in-Err-ArenaFull.field-0-is (
    c.in-Err-ArenaFull.ensures.unturned.0 h.cells (made_by self) h.after))

pub returns-in_default : goal.returns-in_default
returns-in_default c =
    let self = c.args.self.now in
    let program = c.args.image.now in
    let p = c.args.p in
    let entry : Entry = record { process = p; steps = 1 } in
    let more = c.push.ensures.items ∙ ap (λ (es : List Entry). es ++ entry ∷ []) c.in-Ok.ensures.entry.entries in
    record {
      history = more;
      after = λ cells after.
          subst (λ cs. IsMachineAfter program cells cs c.turn.new.self) (sym (ap schedule_of more ∙ schedule-many self.history.items p 1)) (
          stepped program cells (made_by self) p c.in-Ok.turned c.turn.new.self c.in_default.not-Waits (
          c.in-Ok.ensures.turned cells (made_by self) after));
      numbers = c.turn.ensures.roster.numbers;
    }
