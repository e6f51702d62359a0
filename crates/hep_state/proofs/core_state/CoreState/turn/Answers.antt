use Rattle.std.proofs.Common.{◌≡◌, ◌≤◌, ℕ, false, List, None, arith, refl, sym, ap, ◌∙◌, subst}
use Rattle.std.proofs.lemmas.Result.{IfErr-weaker, IfOk-weaker}
use Rattle.hep_machine.specs.Words.{Units}
use Rattle.hep_blocked.specs.Rosters.{RosterValue}
use Rattle.hep_step.specs.Effects.{returns}
use Rattle.hep_state.specs.declared.core_state.CoreState.{CoreState}
use Rattle.hep_state.specs.declared.turn.TurnOutcome.{TurnOutcome}
use Rattle.hep_state.specs.declared.turn.TurnOutcome.TheVariants.{Stepped}
use Rattle.hep_state.specs.Words.{Changes, HasGaps, HasLevels, HasPurgeAhead, IsAtAnswer, IsAtReturn, IsMachineAfter, IsRefused, IsSameButTop, IsToEnd, IsTurn, IsWithoutCall, KeepsRollFor, KeepsState, LeavesAlone, LeavesOthers, LeavesRest, Snapshot, snapshot_of, turn_of}
use Rattle.hep_state.proofs.OtherProcesses.{beside-again, beside-shown, beside-top, rest-again}
use Rattle.hep_state.proofs.ReturnTurns.{IsRunningAlways, ends-there, running-always, untouched-there}
use Rattle.hep_state.proofs.UnchangedStates.{alone, alone-after, as-many, machine-written, rooms-of, rooms-written, settled-same, shown-written, turned-so, without-memory}
use Rattle.hep_state.proofs.core_state.CoreState.turn.Goals.{After-reserve, After-step_ahead}
use Rattle.hep_state.proofs.core_state.CoreState.turn.Goals as goal

pub step_ahead-requires : goal.step_ahead-requires
step_ahead-requires c = c.requires.turn

module _ (c : After-step_ahead) where
  abbrev program : Units
  program = c.args.image.now

  abbrev before : CoreState
  before = c.args.self.now

  abbrev between : CoreState
  between = c.step_ahead.new.self

  -- a turn from there, once it was looked what is ahead, is one from before
  turned : (t : TurnOutcome) (new : CoreState) → IsTurn program c.args.p between t new → IsTurn program c.args.p before t new
  turned t new told cells choices h = told cells choices (c.step_ahead.ensures.after cells choices h)

  settled-top : IsSameButTop program c.args.p (snapshot_of before) (snapshot_of between)
  settled-top = settled-same c.args.p program (snapshot_of before) (snapshot_of between) c.step_ahead.ensures.top

  -- one that leaves the machine alone from there does so from before
  alone-looked : (new : CoreState) → LeavesAlone program c.args.p between new → LeavesAlone program c.args.p before new
  alone-looked new h = alone-after program c.args.p before between new c.step_ahead.ensures.after c.step_ahead.ensures.same settled-top h

  running : between.halted ≡ false
  running = c.step_ahead.ensures.same.halted ∙ c.requires.turn.running

  -- each frame has its gap where another operation is ahead
  gaps-looked : IsWithoutCall program c.args.p (snapshot_of between) → (cells : ℕ) (choices : List ℕ) → IsMachineAfter program cells choices before → HasGaps program cells choices c.args.p
  gaps-looked plain cells choices h =
      c.other_steps_find_gaps.ensures program cells choices (snapshot_of between) c.args.p c.is_runnable.ensures.accepted c.is_runnable.ensures.main (c.step_ahead.ensures.after cells choices h).after running plain

-- ---- CALL, CREATE and references

pub take_call-requires : goal.take_call-requires
take_call-requires c =
    let same = c.in-Call.ensures.same in
    let many = as-many c.args.self.now c.step_ahead.new.self same in
    let h = c.requires.turn.after in
    record {
      at = (h.0, h.1, c.in-Call.ensures.after h.0 h.1 h.2, c.in-Call.ensures.ahead h.0 h.1 h.2);
      countable = omega (arith, same.activations, c.requires.countable);
      numerable = omega (arith, many, c.requires.numerable);
      numbers = omega (arith, many, c.requires.numbers);
    }

pub returns-in-Call-clause-turned : goal.returns-in-Call-clause-turned
returns-in-Call-clause-turned c =
    let before = (goal.at.returns-in-Call-clause-turned c).After-step_ahead in
    IfOk-weaker c.take_call.result _ _ (λ t told. turned before t c.take_call.new.self told) c.take_call.ensures.turned

pub returns-in-Call-clause-unturned : goal.returns-in-Call-clause-unturned
returns-in-Call-clause-unturned c =
    let looked = (goal.at.returns-in-Call-clause-unturned c).After-step_ahead in
    IfErr-weaker c.take_call.result _ _ (λ e told. (λ cells choices h. told.0 cells choices (c.in-Call.ensures.after cells choices h), alone-looked looked c.take_call.new.self told.1)) c.take_call.ensures.unturned

-- ---- an operation

pub take_operation-requires : goal.take_operation-requires
take_operation-requires c =
    let h = c.requires.turn.after in
    record {
      after = (h.0, h.1, c.in-Other.ensures.after h.0 h.1 h.2);
      running = running (goal.at.take_operation-requires c).After-step_ahead;
      plain = c.in-Other.ensures.ahead;
    }

pub returns-in_err-take_operation-in-Other-clause-unturned : goal.returns-in_err-take_operation-in-Other-clause-unturned
returns-in_err-take_operation-in-Other-clause-unturned c =
    let looked = (goal.at.returns-in_err-take_operation-in-Other-clause-unturned c).After-step_ahead in
    let r = c.from_residual-in_err-take_operation-in-Other in
    without-memory (IsRefused c.args.image.now c.args.p c.args.self.now c.take_operation.new.self) r.result r.ensures.1 (
    (gaps-looked looked c.in-Other.ensures.ahead, alone-looked looked c.take_operation.new.self c.in_err-take_operation-in-Other.ensures.refused))

pub returns-in_ok-take_operation-in-Other-clause-turned : goal.returns-in_ok-take_operation-in-Other-clause-turned
returns-in_ok-take_operation-in-Other-clause-turned c =
    turned (goal.at.returns-in_ok-take_operation-in-Other-clause-turned c).After-step_ahead _ c.take_operation.new.self c.in_ok-take_operation-in-Other.ensures.turned

-- ---- PURGE, and the END of a function

-- where room was made for what may be written
module _ (c : After-step_ahead) (new : CoreState) (others : new ≡ record c.step_ahead.new.self { records = new.records; faults = new.faults })
    (written : (new.records.items ≡ c.step_ahead.new.self.records.items) × (new.faults.items ≡ c.step_ahead.new.self.faults.items)) where
  reserved-shown : snapshot_of new ≡ snapshot_of (between c)
  reserved-shown = shown-written (between c) new others written.0 written.1

  reserved : KeepsState (program c) (before c) new
  reserved cells choices h = machine-written (program c) cells choices (between c) new others written.0 written.1 (c.step_ahead.ensures.after cells choices h)

  reserved-alone : LeavesAlone (program c) c.args.p (before c) new
  reserved-alone = alone-looked c new (alone (program c) c.args.p (between c) new reserved-shown (λ cells h. rooms-written (program c) cells (between c) new others h))

-- it is at a PURGE still
at-purge : (c : After-reserve) (cells : ℕ) (choices : List ℕ) → IsMachineAfter c.args.image.now cells choices c.args.self.now → HasPurgeAhead c.args.image.now cells choices c.args.p (snapshot_of c.reserve.new.self) c.in-Purge.purge
at-purge c cells choices h =
    let shown = reserved-shown (goal.at.After-reserve c).After-step_ahead c.reserve.new.self c.reserve.ensures.others c.reserve.ensures.written in
    subst (λ (n : Snapshot). HasPurgeAhead c.args.image.now cells choices c.args.p n c.in-Purge.purge) (sym shown) (c.in-Purge.ensures.ahead cells choices h)

pub purge-requires-clause-at : goal.purge-requires-clause-at
purge-requires-clause-at c =
    let at = goal.at.purge-requires-clause-at c in
    let h = c.requires.turn.after in
    (h.0, h.1, reserved at.After-step_ahead c.reserve.new.self c.reserve.ensures.others c.reserve.ensures.written h.0 h.1 h.2, at-purge at.After-reserve h.0 h.1 h.2)

pub returns-in_err-reserve-in-Purge-clause-unturned : goal.returns-in_err-reserve-in-Purge-clause-unturned
returns-in_err-reserve-in-Purge-clause-unturned c =
    let looked = (goal.at.returns-in_err-reserve-in-Purge-clause-unturned c).After-step_ahead in
    without-memory (IsRefused c.args.image.now c.args.p c.args.self.now c.reserve.new.self) c.from_residual.result c.from_residual.ensures.1 (
      λ cells choices h.
          let at = c.in-Purge.ensures.ahead cells choices h in
          c.purges_are_shown.ensures.gaps (turn_of at) c.in-Purge.purge c.is_runnable.ensures.accepted c.is_runnable.ensures.main at.holds,
      reserved-alone looked c.reserve.new.self c.reserve.ensures.others c.reserve.ensures.written,
    )

pub returns-in_ok-reserve-in-Purge-clause-turned : goal.returns-in_ok-reserve-in-Purge-clause-turned
returns-in_ok-reserve-in-Purge-clause-turned c cells choices h =
    let at = goal.at.returns-in_ok-reserve-in-Purge-clause-turned c in
    c.purge.ensures.purged cells choices (reserved at.After-step_ahead c.reserve.new.self c.reserve.ensures.others c.reserve.ensures.written cells choices h) (at-purge at.After-reserve cells choices h)

pub take_answer-requires-clause-at : goal.take_answer-requires-clause-at
take_answer-requires-clause-at c =
    let looked = (goal.at.take_answer-requires-clause-at c).After-step_ahead in
    let h = c.requires.turn.after in
    let r = c.reserve-in-Answer in
    let shown = reserved-shown looked r.new.self r.ensures.others r.ensures.written in
    record {
      turn = record {
        after = (h.0, h.1, reserved looked r.new.self r.ensures.others r.ensures.written h.0 h.1 h.2);
        running = ap (λ (m : Snapshot). m.halted) shown ∙ running looked;
        living = subst (λ (m : Snapshot). HasLevels m c.args.p) (sym shown) c.in-Answer.ensures.living;
      };
      at = subst (λ (m : Snapshot). IsAtAnswer c.args.image.now c.args.p m c.in-Answer.answer) (sym shown) c.in-Answer.ensures.ahead;
    }

pub returns-in_err-reserve-in-Answer-clause-unturned : goal.returns-in_err-reserve-in-Answer-clause-unturned
returns-in_err-reserve-in-Answer-clause-unturned c =
    let looked = (goal.at.returns-in_err-reserve-in-Answer-clause-unturned c).After-step_ahead in
    let r = c.from_residual-in_err-reserve-in-Answer in
    without-memory (IsRefused c.args.image.now c.args.p c.args.self.now c.reserve-in-Answer.new.self) r.result r.ensures.1 (
      gaps-looked looked c.in-Answer.ensures.ahead.operation,
      reserved-alone looked c.reserve-in-Answer.new.self c.reserve-in-Answer.ensures.others c.reserve-in-Answer.ensures.written,
    )

pub returns-in_ok-reserve-in-Answer-clause-turned : goal.returns-in_ok-reserve-in-Answer-clause-turned
returns-in_ok-reserve-in-Answer-clause-turned c cells choices h =
    let looked = (goal.at.returns-in_ok-reserve-in-Answer-clause-turned c).After-step_ahead in
    let r = c.reserve-in-Answer in
    c.take_answer.ensures.stepped cells choices (reserved looked r.new.self r.ensures.others r.ensures.written cells choices h)

-- ---- RESUME

pub take_resume-requires : goal.take_resume-requires
take_resume-requires c =
    let many = as-many c.args.self.now c.step_ahead.new.self c.in-Resume.ensures.same in
    let h = c.requires.turn.after in
    record {
      at = (h.0, h.1, c.in-Resume.ensures.after h.0 h.1 h.2, c.in-Resume.ensures.ahead h.0 h.1 h.2);
      numerable = omega (arith, many, c.requires.numerable);
      numbers = omega (arith, many, c.requires.numbers);
    }

pub returns-in_err-take_resume-in-Resume-clause-unturned : goal.returns-in_err-take_resume-in-Resume-clause-unturned
returns-in_err-take_resume-in-Resume-clause-unturned c =
    let looked = (goal.at.returns-in_err-take_resume-in-Resume-clause-unturned c).After-step_ahead in
    let r = c.from_residual-in_err-take_resume-in-Resume in
    without-memory (IsRefused c.args.image.now c.args.p c.args.self.now c.take_resume.new.self) r.result r.ensures.1 (
      λ cells choices h.
          let at = c.in-Resume.ensures.ahead cells choices h in
          c.resumes_are_shown.ensures.gaps (turn_of at) c.in-Resume.next c.is_runnable.ensures.accepted c.is_runnable.ensures.main at.holds,
      alone-looked looked c.take_resume.new.self c.in_err-take_resume-in-Resume.ensures.refused,
    )

pub returns-in_ok-take_resume-in-Resume-clause-turned : goal.returns-in_ok-take_resume-in-Resume-clause-turned
returns-in_ok-take_resume-in-Resume-clause-turned c =
    turned (goal.at.returns-in_ok-take_resume-in-Resume-clause-turned c).After-step_ahead (Stepped None) c.take_resume.new.self c.in_ok-take_resume-in-Resume.ensures.turned

-- ---- RETURN

-- the activation ends, and no cell is filled or emptied
module _ (c : After-step_ahead) (at : IsAtReturn c.args.image.now c.args.p (snapshot_of c.step_ahead.new.self)) (cells : ℕ) (choices : List ℕ) (h : IsMachineAfter c.args.image.now cells choices c.args.self.now) where
  known : IsRunningAlways c.args.image.now
  known = running-always c.tops_are_running.ensures.running c.args.image.now c.is_runnable.ensures.accepted c.is_runnable.ensures.main

  looked : IsMachineAfter c.args.image.now cells choices c.step_ahead.new.self
  looked = c.step_ahead.ensures.after cells choices h

  ends : IsToEnd c.args.image.now cells choices c.args.p (snapshot_of c.step_ahead.new.self) returns
  ends = ends-there at.1 known looked.after (running c)

  untouched : Changes c.args.image.now cells choices c.args.p None
  untouched = untouched-there at.1 known looked.after (running c)

pub finish-requires : goal.finish-requires
finish-requires c =
    let looked = (goal.at.finish-requires c).After-step_ahead in
    let h = c.requires.turn.after in
    (c.args.image.now, h.0, h.1, ends looked c.in-Return.ensures.ahead h.0 h.1 h.2, (c.in-Return.ensures.after h.0 h.1 h.2).numbers)

pub returns-in_err-reserve-in-Return-clause-unturned : goal.returns-in_err-reserve-in-Return-clause-unturned
returns-in_err-reserve-in-Return-clause-unturned c =
    let looked = (goal.at.returns-in_err-reserve-in-Return-clause-unturned c).After-step_ahead in
    let r = c.from_residual-in_err-reserve-in-Return in
    without-memory (IsRefused c.args.image.now c.args.p c.args.self.now c.step_ahead.new.self) r.result r.ensures.1 (
      gaps-looked looked c.in-Return.ensures.ahead.1.operation,
      record {
        after = c.in-Return.ensures.after;
        same = c.in-Return.ensures.same;
        top = settled-top looked;
        made = as-many c.args.self.now c.step_ahead.new.self c.in-Return.ensures.same;
      },
    )

pub returns-in_ok-reserve-in-Return-clause-turned : goal.returns-in_ok-reserve-in-Return-clause-turned
returns-in_ok-reserve-in-Return-clause-turned c cells choices h =
    let program = c.args.image.now in
    let looked = (goal.at.returns-in_ok-reserve-in-Return-clause-turned c).After-step_ahead in
    let at = c.in-Return.ensures.ahead in
    turned-so program cells choices c.args.p c.finish.new.self (untouched looked at cells choices h) (c.finish.ensures.stepped program cells choices (ends looked at cells choices h))
    (c.finish.ensures.rooms program cells (rooms-of program cells choices c.step_ahead.new.self (c.in-Return.ensures.after cells choices h)))

-- ---- who is ready and who waits stays, where no process is made

kept-for : (m : CoreState) (roster : RosterValue) → m.made ≤ roster.room → KeepsRollFor m roster roster
kept-for m roster room = record { numbers = room; kept = record { grows = omega arith; ready = λ q. refl; waiting = λ q. refl; last = refl } }

pub returns-in_err-reserve-in-Purge-clause-roster : goal.returns-in_err-reserve-in-Purge-clause-roster
returns-in_err-reserve-in-Purge-clause-roster c =
    kept-for c.reserve.new.self c.args.roster.now (omega (arith, c.requires.numbers, as-many c.args.self.now c.step_ahead.new.self c.in-Purge.ensures.same, ap (λ (m : CoreState). m.made) c.reserve.ensures.others))

pub returns-in_ok-reserve-in-Purge-clause-roster : goal.returns-in_ok-reserve-in-Purge-clause-roster
returns-in_ok-reserve-in-Purge-clause-roster c =
    kept-for c.purge.new.self c.args.roster.now (omega (arith, c.requires.numbers, as-many c.args.self.now c.step_ahead.new.self c.in-Purge.ensures.same, ap (λ (m : CoreState). m.made) c.reserve.ensures.others, c.purge.ensures.made))

pub returns-in_err-take_operation-in-Other-clause-roster : goal.returns-in_err-take_operation-in-Other-clause-roster
returns-in_err-take_operation-in-Other-clause-roster c =
    kept-for c.take_operation.new.self c.args.roster.now (omega (arith, c.requires.numbers, as-many c.args.self.now c.step_ahead.new.self c.in-Other.ensures.same, c.take_operation.ensures.made))

pub returns-in_ok-take_operation-in-Other-clause-roster : goal.returns-in_ok-take_operation-in-Other-clause-roster
returns-in_ok-take_operation-in-Other-clause-roster c =
    kept-for c.take_operation.new.self c.args.roster.now (omega (arith, c.requires.numbers, as-many c.args.self.now c.step_ahead.new.self c.in-Other.ensures.same, c.take_operation.ensures.made))

pub returns-in_err-reserve-in-Return-clause-roster : goal.returns-in_err-reserve-in-Return-clause-roster
returns-in_err-reserve-in-Return-clause-roster c =
    kept-for c.step_ahead.new.self c.args.roster.now (omega (arith, c.requires.numbers, as-many c.args.self.now c.step_ahead.new.self c.in-Return.ensures.same))

pub returns-in_ok-reserve-in-Return-clause-roster : goal.returns-in_ok-reserve-in-Return-clause-roster
returns-in_ok-reserve-in-Return-clause-roster c =
    kept-for c.finish.new.self c.args.roster.now (omega (arith, c.requires.numbers, as-many c.args.self.now c.step_ahead.new.self c.in-Return.ensures.same, c.finish.ensures.made))

pub returns-in_err-reserve-in-Answer-clause-roster : goal.returns-in_err-reserve-in-Answer-clause-roster
returns-in_err-reserve-in-Answer-clause-roster c =
    kept-for c.reserve-in-Answer.new.self c.args.roster.now (omega (arith, c.requires.numbers, as-many c.args.self.now c.step_ahead.new.self c.in-Answer.ensures.same, ap (λ (m : CoreState). m.made) c.reserve-in-Answer.ensures.others))

pub returns-in_ok-reserve-in-Answer-clause-roster : goal.returns-in_ok-reserve-in-Answer-clause-roster
returns-in_ok-reserve-in-Answer-clause-roster c =
    kept-for c.take_answer.new.self c.args.roster.now (omega (arith, c.requires.numbers, as-many c.args.self.now c.step_ahead.new.self c.in-Answer.ensures.same, ap (λ (m : CoreState). m.made) c.reserve-in-Answer.ensures.others, c.take_answer.ensures.made))

-- ---- the others stand where they stood

module _ (c : After-step_ahead) where
  -- where it was looked what is ahead
  beside-looked : (new : Snapshot) → LeavesOthers c.args.p (snapshot_of (between c)) new → LeavesOthers c.args.p (snapshot_of c.args.self.now) new
  beside-looked new h =
      let old = snapshot_of c.args.self.now in
      let mid = snapshot_of (between c) in
      beside-again c.args.p old mid new (beside-top c.args.p c.args.image.now old mid c.requires.turn.living (settled-top c)) h

  rest-looked : (turned : TurnOutcome) (new : Snapshot) → LeavesRest turned c.args.image.now c.args.p (snapshot_of (between c)) new → LeavesRest turned c.args.image.now c.args.p (snapshot_of c.args.self.now) new
  rest-looked turned new h = rest-again c.args.image.now c.args.p turned (snapshot_of c.args.self.now) (snapshot_of (between c)) new c.requires.turn.living (settled-top c) h

  -- and room was made
  beside-reserved : (room : CoreState) → room ≡ record c.step_ahead.new.self { records = room.records; faults = room.faults } → (room.records.items ≡ c.step_ahead.new.self.records.items) × (room.faults.items ≡ c.step_ahead.new.self.faults.items)
      → (new : Snapshot) → LeavesOthers c.args.p (snapshot_of room) new → LeavesOthers c.args.p (snapshot_of c.args.self.now) new
  beside-reserved room others written new h =
      let mid = snapshot_of (between c) in
      beside-looked new (beside-again c.args.p mid (snapshot_of room) new (beside-shown c.args.p mid (snapshot_of room) (reserved-shown c room others written)) h)

pub returns-in-Call-clause-rest : goal.returns-in-Call-clause-rest
returns-in-Call-clause-rest c =
    let before = (goal.at.returns-in-Call-clause-rest c).After-step_ahead in
    IfOk-weaker c.take_call.result _ _ (λ t told. rest-looked before t (snapshot_of c.take_call.new.self) told) c.take_call.ensures.rest

pub returns-in_ok-take_operation-in-Other-clause-rest : goal.returns-in_ok-take_operation-in-Other-clause-rest
returns-in_ok-take_operation-in-Other-clause-rest c =
    rest-looked (goal.at.returns-in_ok-take_operation-in-Other-clause-rest c).After-step_ahead _ (snapshot_of c.take_operation.new.self) c.in_ok-take_operation-in-Other.ensures.rest

pub returns-in_ok-reserve-in-Purge-clause-rest : goal.returns-in_ok-reserve-in-Purge-clause-rest
returns-in_ok-reserve-in-Purge-clause-rest c =
    beside-reserved (goal.at.returns-in_ok-reserve-in-Purge-clause-rest c).After-step_ahead c.reserve.new.self c.reserve.ensures.others c.reserve.ensures.written (snapshot_of c.purge.new.self) c.purge.ensures.others

pub returns-in_ok-reserve-in-Answer-clause-rest : goal.returns-in_ok-reserve-in-Answer-clause-rest
returns-in_ok-reserve-in-Answer-clause-rest c =
    let r = c.reserve-in-Answer in
    beside-reserved (goal.at.returns-in_ok-reserve-in-Answer-clause-rest c).After-step_ahead r.new.self r.ensures.others r.ensures.written (snapshot_of c.take_answer.new.self) c.take_answer.ensures.others

pub returns-in_ok-take_resume-in-Resume-clause-rest : goal.returns-in_ok-take_resume-in-Resume-clause-rest
returns-in_ok-take_resume-in-Resume-clause-rest c =
    beside-looked (goal.at.returns-in_ok-take_resume-in-Resume-clause-rest c).After-step_ahead (snapshot_of c.take_resume.new.self) c.take_resume.ensures.others

pub returns-in_ok-reserve-in-Return-clause-rest : goal.returns-in_ok-reserve-in-Return-clause-rest
returns-in_ok-reserve-in-Return-clause-rest c =
    beside-looked (goal.at.returns-in_ok-reserve-in-Return-clause-rest c).After-step_ahead (snapshot_of c.finish.new.self) c.finish.ensures.others
