use Rattle.std.proofs.Common.{◌≡◌, ◌<◌, ℕ, List, [], ◌∷◌, ◌++◌, ◌∙◌, ap, subst, sym, vec_capacity, vec_len}
use Rattle.hep_step.specs.declared.effect.Effect.{Effect}
use Rattle.hep_state.specs.Words.{Changes, HaveRoom, IsWithoutCall, IsMachineAfter, Snapshot, StaysWaiting, snapshot_of}
use Rattle.hep_state.proofs.OtherProcesses.{beside-again, beside-shown}
use Rattle.hep_state.proofs.UnchangedStates.{alone, carry, machine-of, machine-written, on-err, rooms-of, rooms-written, shown-written, top-shown}
use Rattle.hep_state.proofs.core_state.CoreState.take_operation.Goals.{After-reserve}
use Rattle.hep_state.proofs.core_state.CoreState.take_operation.Goals as goal

-- once room was made
module _ (c : After-reserve) where
  reserved-shown : snapshot_of c.reserve.new.self ≡ snapshot_of c.args.self.now
  reserved-shown = shown-written c.args.self.now c.reserve.new.self c.reserve.ensures.others c.reserve.ensures.written.0 c.reserve.ensures.written.1

  reserved-rooms : (cells : ℕ) → HaveRoom c.args.image.now cells c.args.self.now → HaveRoom c.args.image.now cells c.reserve.new.self
  reserved-rooms cells h = rooms-written c.args.image.now cells c.args.self.now c.reserve.new.self c.reserve.ensures.others h

  reserved : (cells : ℕ) (choices : List ℕ) → IsMachineAfter c.args.image.now cells choices c.args.self.now → IsMachineAfter c.args.image.now cells choices c.reserve.new.self
  reserved cells choices h = machine-written c.args.image.now cells choices c.args.self.now c.reserve.new.self c.reserve.ensures.others c.reserve.ensures.written.0 c.reserve.ensures.written.1 h

pub returns-in_err-reserve-clause-refused : goal.returns-in_err-reserve-clause-refused
returns-in_err-reserve-clause-refused c =
    let before = (goal.at.returns-in_err-reserve-clause-refused c).After-reserve in
    on-err c.from_residual.result c.from_residual.ensures.0 (
    alone c.args.image.now c.args.p c.args.self.now c.reserve.new.self (reserved-shown before) (reserved-rooms before))

pub returns-in_err-effect-clause-refused : goal.returns-in_err-effect-clause-refused
returns-in_err-effect-clause-refused c =
    let before = (goal.at.returns-in_err-effect-clause-refused c).After-reserve in
    on-err c.from_residual-in_err-effect.result c.from_residual-in_err-effect.ensures.0 (
    alone c.args.image.now c.args.p c.args.self.now c.advance.new.self (c.in_err-effect.ensures.refused ∙ reserved-shown before) (λ cells h. c.advance.ensures.kept.rooms cells (reserved-rooms before cells h)))

pub advance-requires : goal.advance-requires
advance-requires c =
    let before = (goal.at.advance-requires c).After-reserve in
    let h = c.requires.after in
    record {
      after = (h.0, h.1, reserved before h.0 h.1 h.2);
      running = ap (λ (m : Snapshot). m.halted) (reserved-shown before) ∙ c.requires.running;
      plain = subst (IsWithoutCall c.args.image.now c.args.p) (sym (reserved-shown before)) c.requires.plain;
    }

pub end_turn-requires : goal.end_turn-requires
end_turn-requires c =
    let before = (goal.at.end_turn-requires c).After-reserve in
    let kept = c.advance.ensures.kept in
    let h = c.requires.after in
    let there = reserved before h.0 h.1 h.2 in (
      (c.args.image.now, h.0, h.1, c.in_ok-effect.ensures.performed.0 h.0 h.1 there, kept.rooms h.0 (rooms-of c.args.image.now h.0 h.1 c.reserve.new.self there)),
      carry (λ i. vec_len (sym kept.records i) < vec_capacity (sym kept.records i)) c.in_ok-reserve.ensures.records,
      carry (λ i. vec_len (sym kept.faults i) < vec_capacity (sym kept.faults i)) c.in_ok-reserve.ensures.faults,
    )

pub returns-in-Some-clause-turned : goal.returns-in-Some-clause-turned
returns-in-Some-clause-turned c cells choices h =
    let program = c.args.image.now in
    let there = reserved (goal.at.returns-in-Some-clause-turned c).After-reserve cells choices h in
    let waited = c.in-Some.ensures.ended program cells choices (c.in_ok-effect.ensures.performed.0 cells choices there) in
    let rooms = c.end_turn.ensures.rooms program cells (c.advance.ensures.kept.rooms cells (rooms-of program cells choices c.reserve.new.self there)) in
    (waited, machine-of program cells choices c.end_turn.new.self waited.after rooms)

pub returns-in-Some-clause-rest : goal.returns-in-Some-clause-rest
returns-in-Some-clause-rest c =
    let before = (goal.at.returns-in-Some-clause-rest c).After-reserve in
    let stays = subst (λ (e : Effect). StaysWaiting e (snapshot_of c.reserve.new.self) (snapshot_of c.advance.new.self)) c.in-Some.ensures.waits.0 c.in_ok-effect.ensures.performed.1 in
    top-shown c.args.p c.args.image.now (snapshot_of c.args.self.now) (snapshot_of c.end_turn.new.self) (ap snapshot_of c.in-Some.ensures.waits.1 ∙ stays ∙ reserved-shown before)

pub returns-in-None-clause-turned : goal.returns-in-None-clause-turned
returns-in-None-clause-turned c cells choices h =
    let program = c.args.image.now in
    let p = c.args.p in
    let there = reserved (goal.at.returns-in-None-clause-turned c).After-reserve cells choices h in
    let stepped = c.in-None.ensures.ended program cells choices (c.in_ok-effect.ensures.performed.0 cells choices there) in
    let rooms = c.end_turn.ensures.rooms program cells (c.advance.ensures.kept.rooms cells (rooms-of program cells choices c.reserve.new.self there)) in (
      stepped.stepped,
      machine-of program cells (choices ++ p ∷ []) c.end_turn.new.self stepped.after rooms,
      subst (Changes program cells choices p) (sym c.changed-changed.ensures) (c.in_ok-effect.ensures.changed cells choices there),
    )

pub returns-in-None-clause-rest : goal.returns-in-None-clause-rest
returns-in-None-clause-rest c =
    let before = (goal.at.returns-in-None-clause-rest c).After-reserve in
    let p = c.args.p in
    let old = snapshot_of c.args.self.now in
    let reserved = snapshot_of c.reserve.new.self in
    let advanced = snapshot_of c.advance.new.self in
    let new = snapshot_of c.end_turn.new.self in
    beside-again p old advanced new (beside-again p old reserved advanced (beside-shown p old reserved (reserved-shown before)) c.advance.ensures.others) c.end_turn.ensures.others
