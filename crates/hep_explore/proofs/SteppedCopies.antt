-- A copy of a machine keeps the same states, and the step of a process in it.
use Rattle.std.proofs.Common.{◌≡◌, ℕ, Bool, false, true, true≢false, List, Option, Some, None, is_some, refl, sym, ap, ◌∙◌}
use Rattle.std.proofs.Common.{subst}
use Rattle.hep_machine.specs.Words.{Units, living, run}
use Rattle.hep_machine.proofs.Others.{dead_idle}
use Rattle.hep_blocked.proofs.LivingProcesses.{waits-idle}
use Rattle.hep_cells.specs.declared.want.Want.{Want}
use Rattle.hep_state.specs.declared.core_state.CoreState.{CoreState}
use Rattle.hep_state.specs.declared.turn.TurnFault.{TurnFault}
use Rattle.hep_state.specs.declared.turn.TurnFault.TheVariants.{ArenaFull}
use Rattle.hep_state.specs.declared.turn.TurnOutcome.{TurnOutcome}
use Rattle.hep_state.specs.declared.turn.TurnOutcome.TheVariants.{Purged, Stepped, Waits}
use Rattle.hep_state.specs.Words.{HasTurned, HaveRoom, IsAfter, IsMachineAfter, IsTurn, IsUntaken, IsUnturned, IsWhetherLives, KeepsRoom}
use Rattle.hep_state.specs.Words.{snapshot_of}
use Rattle.hep_explore.specs.Successors.{IsSuccessor}
use Rattle.hep_explore.specs.declared.successor.Successor.TheVariants.{Full, Machine, Nothing}

-- a process that doesn't live has no step
pub dead_successor : (program : Units) (p : ℕ) (m : CoreState) (lives : Bool) → lives ≡ false → IsWhetherLives lives p m
    → IsSuccessor program p m Nothing
dead_successor program p m lives dead is cells before after =
    dead_idle program p (run program before) (by (living (run program before) p) (sym (is program cells before after.after) ∙ dead))
  where
    by : {A : Type 0} → (o : Option A) → is_some o ≡ false → o ≡ None
    by None e = refl
    by (Some x) e = absurd (true≢false e)

module _ (program : Units) (p : ℕ) (old copy : CoreState) (shown : snapshot_of copy ≡ snapshot_of old) (rooms : KeepsRoom old copy) where
  -- the copy keeps each state of the machine
  pub copied : (cells : ℕ) (before : List ℕ) → IsMachineAfter program cells before old → IsMachineAfter program cells before copy
  copied cells before after =
      let room : HaveRoom program cells old =
      record { few = after.few; to_pass = after.to_pass; room = after.room; numbers = after.numbers }
      in
      let kept = rooms program cells room in
      record {
        after = subst (IsAfter program cells before) (sym shown) after.after;
        few = kept.few;
        to_pass = kept.to_pass;
        room = kept.room;
        numbers = kept.numbers;
      }

  -- a process that waits has no step
  pub waiting_successor : (taken : TurnOutcome) (new : CoreState) → IsTurn program p copy taken new → (want : Want) → taken ≡ Waits want
      → IsSuccessor program p old Nothing
  waiting_successor taken new is want e cells before after =
      let waits = subst (λ t. HasTurned program cells before p t new) e (is cells before (copied cells before after)) in
      waits-idle program p (run program before) (ap is_some waits.0.waits)

  -- the machine after its step
  pub stepped_successor : (taken : TurnOutcome) (new : CoreState) → IsTurn program p copy taken new → (changed : Option Want)
      → taken ≡ Stepped changed → IsSuccessor program p old (Machine new)
  stepped_successor taken new is changed e cells before after =
      let h = subst (λ t. HasTurned program cells before p t new) e (is cells before (copied cells before after)) in
      record { stepped = h.0; after = h.1 }

  -- or after a PURGE
  pub purged_successor : (taken : TurnOutcome) (new : CoreState) → IsTurn program p copy taken new → taken ≡ Purged
      → IsSuccessor program p old (Machine new)
  purged_successor taken new is e cells before after =
      let h = subst (λ t. HasTurned program cells before p t new) e (is cells before (copied cells before after)) in
      record { stepped = h.0; after = h.1 }

  -- its step finds no gap
  pub full_successor : (fault : TurnFault) → fault ≡ ArenaFull → IsUntaken program p copy fault → IsSuccessor program p old Full
  full_successor fault e is cells before after =
      subst (λ f. IsUnturned f program cells before p) e (is cells before (copied cells before after))
