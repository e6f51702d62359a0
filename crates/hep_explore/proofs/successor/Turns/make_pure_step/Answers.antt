use Rattle.hep_explore.proofs.PureAhead.{pure_full, pure_purged, pure_stepped, pure_waits}
use Rattle.hep_explore.proofs.successor.Turns.make_pure_step.Goals as goal

pub turn-requires : goal.turn-requires
turn-requires c =
    record {
      turn = c.requires.turn;
      countable = c.requires.countable;
      numerable = c.requires.numerable;
      numbers = c.in_ok-reserve.ensures.room;
    }

pub returns-in-Ok-Stepped : goal.returns-in-Ok-Stepped
returns-in-Ok-Stepped c =
    let arm = c.in-Ok-Stepped in
    pure_stepped c.args.image.now c.args.p c.args.machine.now c.requires.turn.after c.requires.pure arm.field-0 c.turn.new.self
    arm.ensures.turned _ arm.field-0-is

pub returns-in-Ok-Purged : goal.returns-in-Ok-Purged
returns-in-Ok-Purged c =
    let arm = c.in-Ok-Purged in
    pure_purged c.args.image.now c.args.p c.args.machine.now c.requires.turn.after c.requires.pure arm.field-0 c.turn.new.self
    arm.ensures.turned arm.field-0-is

pub unreachable-requires : goal.unreachable-requires
unreachable-requires c =
    let arm = c.in-Ok-Waits in
    pure_waits c.args.image.now c.args.p c.args.machine.now c.requires.turn.after c.requires.pure arm.field-0 c.turn.new.self
    arm.ensures.turned _ arm.field-0-is

pub unreachable-requires-in-Err-ArenaFull : goal.unreachable-requires-in-Err-ArenaFull
unreachable-requires-in-Err-ArenaFull c =
    pure_full c.args.image.now c.args.p c.args.machine.now c.requires.turn.after c.requires.pure c.in-Err-ArenaFull.field-0
    c.in-Err-ArenaFull.field-0-is c.in-Err-ArenaFull.ensures.unturned.0
