-- A process whose turn it is: where its top activation is, and that its operands are few.
use Rattle.std.proofs.Common.{◌≡◌, ℕ, IfOk, List, Result, Ok, Err, get_or, subst, arith}
use Rattle.hep_machine.specs.Words.{Units, Value}
use Rattle.hep_proc.specs.declared.process.Process.{Process}
use Rattle.hep_state.specs.declared.core_state.CoreState.{CoreState}
use Rattle.hep_state.specs.Words.{HasLevels, IsItsTurn, IsPlaceOf, IsTurning, Snapshot, TurnOf, turn_with}
use Rattle.hep_state.proofs.SilentTurns.{top-node}
use Rattle.hep_state.proofs.Processes.{process-at}
use Rattle.hep_state.proofs.TakenTurns.{inside, room-ahead}
use Rattle.hep_state.proofs.TopActivations.{turning}
use Rattle.hep_machine.specs.declared.slot.Slot.{Slot}
use Rattle.hep_private.specs.OwnState.{values_at}
use Rattle.hep_proc.specs.declared.frames.Frames.{Frames}
use Rattle.hep_proc.specs.declared.process.Local.{Local}
use Rattle.hep_commit.specs.TopSegments.{IsStanding, first_under, start_under}

-- what holds where memory wasn't refused, holds of what follows from it
pub ok-too : {A E : Type 0} {P Q : A → Type 0} (r : Result A E) → IfOk r P → ((x : A) → P x → Q x) → IfOk r Q
ok-too (Ok x) h f = f x h
ok-too (Err e) h f = tt

-- where the top activation is, by what was found of it
pub start-same : (frames : Frames) (l top : Local) (operands found : List Value) (index first : ℕ) (slots : List Slot) → top ≡ l → index ≡ l.index → found ≡ operands → slots ≡ frames.arena.contents → first ≡ first_under frames l
    → record { unit = top.unit; index = index; operands = found; values = values_at slots first } ≡ start_under frames l operands
start-same frames l top operands found index first slots same at having holding begins =
    λ i. record { unit = (same i).unit; index = at i; operands = having i; values = values_at (holding i) (begins i) }

-- by another name for its number
pub its-levels : {m : Snapshot} {p k : ℕ} → p ≡ k → HasLevels m p → HasLevels m k
its-levels {m} same levels = subst (HasLevels m) same levels

pub its-place : {qs : List Process} {p k at : ℕ} → k ≡ p → IsPlaceOf qs k at → IsPlaceOf qs p at
its-place {qs} {p} {k} {at} same place = subst (λ n. IsPlaceOf qs n at) same place

module _ {program : Units} {p : ℕ} {m : CoreState} (turn : IsItsTurn program p m) where
  abbrev pub its-turn : TurnOf
  its-turn = turn_with program turn.after.0 turn.after.1 turn.living (turning p turn.after.2.after turn.living turn.running).0

  pub turns : IsTurning its-turn
  turns = (turning p turn.after.2.after turn.living turn.running).1

  pub standing : {at : ℕ} {q : Process} → IsPlaceOf m.processes.items p at → q ≡ get_or m.processes.items at q → IsStanding program q m.frames
  standing place is =
      let e = turn.living in
      let it = process-at m p turn.after.2.numbers place e.kept is in
      record {
        l = e.level;
        ls = e.below;
        operands = e.operands;
        pending = e.pending;
        stack = it.stack;
        there = (inside turns, top-node turns);
        few = omega (arith, room-ahead turns);
      }
