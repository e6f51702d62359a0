-- A CALL or reference of a process, once it was found what it is given.
use Rattle.std.proofs.Common.{◌≡◌, ℕ, ◌+◌, ◌<◌, ◌^◌, false, List, IsSome, arith, sym, ap, ◌∙◌, subst}
use Rattle.hep_machine.specs.Words.{Units, frame_cells, unit_at}
use Rattle.hep_arena.specs.Holes.{first_fit}
use Rattle.hep_step.specs.NextCalls.{is_creation}
use Rattle.hep_state.specs.declared.core_state.CoreState.{CoreState}
use Rattle.hep_state.specs.declared.next_step.NextCall.{NextCall}
use Rattle.hep_state.specs.Words.{CanBeginCall, HasCallAhead, HoldsInTurn, IsAfter, IsAtCallAhead, IsGivenBy, IsMachineAfter, IsMaking, KeepsRoomOf, Snapshot, StaysShown, StepsOn, snapshot_of}
use Rattle.hep_state.proofs.OtherProcesses.{beside-again, beside-shown}
use Rattle.hep_state.proofs.TopActivations.{turning}
use Rattle.hep_state.proofs.UnchangedStates.{machine-of, machine-reserved}

-- it is ahead after whatever turns
pub ahead-after : {program : Units} {cells later : ℕ} {choices turns : List ℕ} {p : ℕ} {m : Snapshot} {call : NextCall} → HasCallAhead program cells choices p m call → IsAfter program later turns m → HasCallAhead program later turns p m call
ahead-after {p = p} at after =
    let was = at.holds.step.turning in
    let turn = turning p after at.levels (was.after.shows.halted ∙ was.running) in
    record { levels = at.levels; top = turn.0; holds = record { step = record { turning = turn.1; behind = at.holds.step.behind; ahead = at.holds.step.ahead }; onward = at.holds.onward } }

module _ {program : Units} {p : ℕ} {old new : CoreState} {call : NextCall} (at : IsAtCallAhead program p old call) (others : new ≡ record old { passing = new.passing }) (rooms : KeepsRoomOf program old new) where
  shown : snapshot_of new ≡ snapshot_of old
  shown = ap snapshot_of others

  made : new.made ≡ old.made
  made = ap (λ (m : CoreState). m.made) others

  pub given-stays : StaysShown program old new
  given-stays = record { shown = shown; made = made; rooms = rooms }

  -- the machine keeps the states that it kept before, and no others
  given-after : {cells : ℕ} {choices : List ℕ} → IsMachineAfter program cells choices old → IsMachineAfter program cells choices new
  given-after {cells} {choices} h = machine-reserved program cells choices old new shown (rooms cells) h

  given-before : {cells : ℕ} {choices : List ℕ} → IsMachineAfter program cells choices new → IsMachineAfter program cells choices old
  given-before {cells} {choices} h =
      machine-of program cells choices old (subst (IsAfter program cells choices) shown h.after) (record { few = h.few; to_pass = at.2.to_pass; room = at.2.room; numbers = at.2.numbers })

  pub can-begin : (kept : ℕ) → is_creation call.way ≡ false → old.activations + 1 < 2 ^ 64 → IsGivenBy program p old call kept new.passing → IsSome (first_fit (frame_cells (unit_at program call.unit)) new.frames.arena.holes)
      → CanBeginCall program p new call kept
  can-begin kept above countable given gap =
      record {
        calling = record {
          at = (at.0, at.1, given-after at.2, subst (λ (m : Snapshot). HasCallAhead program at.0 at.1 p m call) (sym shown) at.3);
          above = above;
          countable = omega (arith, countable, ap (λ (m : Snapshot). m.activations) shown);
        };
        making = λ cells choices h.
            let was = given-before h in
            subst (λ (m : Snapshot). HoldsInTurn program cells choices p m (λ t. IsMaking call.way t call.unit kept call.next new.passing.given.items new.passing.shapes.items)) (sym shown) (given cells choices was (ahead-after at.3 was.after));
        gap = gap;
      }

  -- a step from there is one from before
  pub stepped-given : (later : CoreState) → StepsOn program p new later → StepsOn program p old later
  stepped-given later steps =
      let lives = steps.lives in
      record {
        turned = λ cells choices h. steps.turned cells choices (given-after h);
        lives = record {
          living = lives.living;
          running = lives.running ∙ ap (λ (m : Snapshot). m.halted) shown;
          made = lives.made ∙ made;
          counted = omega (arith, lives.counted, ap (λ (m : Snapshot). m.activations) shown);
          others = beside-again p (snapshot_of old) (snapshot_of new) (snapshot_of later) (beside-shown p (snapshot_of old) (snapshot_of new) shown) lives.others;
        };
      }
