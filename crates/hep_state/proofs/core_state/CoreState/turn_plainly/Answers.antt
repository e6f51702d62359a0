use Rattle.std.proofs.Common.{refl, sym, ◌∙◌}
use Rattle.hep_state.proofs.core_state.CoreState.turn_plainly.Goals as goal

pub ahead_now-requires : goal.ahead_now-requires
ahead_now-requires c = c.requires.settled

pub returns-then-creates : goal.returns-then-creates
returns-then-creates c = record { shown = refl; made = refl; rooms = λ cells h. h }

pub make_call-requires : goal.make_call-requires
make_call-requires c =
    let h = c.requires.settled.turn.after in
    record { at = (h.0, h.1, h.2, c.in-Call.ensures h.0 h.1 h.2); above = sym c.creates.ensures ∙ c.if-creates.false; countable = c.requires.countable }

pub make_return-requires : goal.make_return-requires
make_return-requires c = record { turn = c.requires.settled.turn; at = c.in-Return.ensures }

pub returns-in_default : goal.returns-in_default
returns-in_default c = record { shown = refl; made = refl; rooms = λ cells h. h }
