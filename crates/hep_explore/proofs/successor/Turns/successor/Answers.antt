use Rattle.std.proofs.Common.{◌∙◌, ap, arith, subst, sym}
use Rattle.hep_state.specs.Words.{HasLevels, Snapshot}
use Rattle.hep_explore.proofs.SteppedCopies.{copied, dead_successor, full_successor, purged_successor, stepped_successor, waiting_successor}
use Rattle.hep_explore.proofs.successor.Turns.successor.Goals as goal

pub lives-requires : goal.lives-requires
lives-requires c = c.requires.reached.2.numbers

pub returns-then-not-lives : goal.returns-then-not-lives
returns-then-not-lives c =
    dead_successor c.args.image.now c.args.p c.args.machine.now c.lives.result c.if-not-lives.true c.lives.ensures.lives

pub turn-requires : goal.turn-requires
turn-requires c =
    let reached = c.requires.reached in
    let shown = c.in_ok-next.ensures.shown in
    let rooms = c.in_ok-next.ensures.rooms in
    let old = c.args.machine.now in
    let activations = ap (λ (s : Snapshot). s.activations) shown in
    let made = c.in_ok-next.ensures.made in
    record {
      turn = record {
        after = (
          reached.0,
          reached.1,
          copied c.args.image.now c.args.p old c.in_ok-next.next shown rooms reached.0 reached.1 reached.2,
        );
        running = ap (λ (s : Snapshot). s.halted) shown ∙ c.requires.running;
        living = subst (λ (s : Snapshot). HasLevels s c.args.p) (sym shown) (c.lives.ensures.levels c.if-not-lives.false);
      };
      countable = omega arith;
      numerable = omega arith;
      numbers = c.in_ok-reserve.ensures.room;
    }

pub returns-in-Ok-Stepped : goal.returns-in-Ok-Stepped
returns-in-Ok-Stepped c =
    let arm = c.in-Ok-Stepped in
    stepped_successor c.args.image.now c.args.p c.args.machine.now c.in_ok-next.next c.in_ok-next.ensures.shown c.in_ok-next.ensures.rooms
    arm.field-0 c.turn.new.self arm.ensures.turned _ arm.field-0-is

pub returns-in-Ok-Purged : goal.returns-in-Ok-Purged
returns-in-Ok-Purged c =
    let arm = c.in-Ok-Purged in
    purged_successor c.args.image.now c.args.p c.args.machine.now c.in_ok-next.next c.in_ok-next.ensures.shown c.in_ok-next.ensures.rooms
    arm.field-0 c.turn.new.self arm.ensures.turned arm.field-0-is

pub returns-in-Ok-Waits : goal.returns-in-Ok-Waits
returns-in-Ok-Waits c =
    let arm = c.in-Ok-Waits in
    waiting_successor c.args.image.now c.args.p c.args.machine.now c.in_ok-next.next c.in_ok-next.ensures.shown c.in_ok-next.ensures.rooms
    arm.field-0 c.turn.new.self arm.ensures.turned _ arm.field-0-is

pub returns-in-Err-ArenaFull : goal.returns-in-Err-ArenaFull
returns-in-Err-ArenaFull c =
    full_successor c.args.image.now c.args.p c.args.machine.now c.in_ok-next.next c.in_ok-next.ensures.shown c.in_ok-next.ensures.rooms
    c.in-Err-ArenaFull.field-0 c.in-Err-ArenaFull.field-0-is c.in-Err-ArenaFull.ensures.unturned.0
