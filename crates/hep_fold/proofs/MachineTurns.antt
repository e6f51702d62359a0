-- A machine that makes turns again: who has a step has its turn, and the turns that were made.
use Rattle.std.proofs.Common.{◌≡◌, ◌≢◌, ℕ, Bool, true, false, true≢false, List, [], ◌∷◌, ◌++◌, Option, Some, None, IsSome, is_some, if◌then◌else◌, refl, sym, ap, ◌∙◌}
use Rattle.hep_advance.specs.SilentRuns.{CanTakeTurns, MakesMoves}
use Rattle.hep_advance.specs.SilentRuns as gone
use Rattle.hep_blocked.proofs.LivingProcesses.{waits-idle}
use Rattle.hep_cells.specs.declared.want.Want.{Want}
use Rattle.hep_fast.specs.declared.decoded_image.DecodedImage.{DecodedImage}
use Rattle.hep_machine.specs.Step.{state_made, step_result_of_top}
use Rattle.hep_machine.specs.Words.{Level, Process, State, Units, living, run, step, step_result_of}
use Rattle.hep_state.specs.declared.core_state.CoreState.{CoreState}
use Rattle.hep_state.specs.declared.turn.TurnFault.TheVariants.{ArenaFull}
use Rattle.hep_state.specs.declared.turn.TurnOutcome.{TurnOutcome}
use Rattle.hep_state.specs.declared.turn.TurnOutcome.TheVariants.{Purged, Stepped, Waits}
use Rattle.hep_state.specs.Words.{HasLevels, HasTurned, IsItsTurn, IsMachineAfter, IsUnturned, snapshot_of}
use Rattle.hep_views.proofs.WaitingPlaces.{living-top}
use Rattle.hep_fold.specs.declared.replay_machine.ReplayMachine.{ReplayMachine}
use Rattle.hep_fold.specs.Observers.{IsUnderWay, Replay}
use Rattle.hep_fold.specs.ReplayMachines.{CanGoAgain, CanTurnAgain, made_by}

-- ---- who has a step

module _ (program : Units) (p : ℕ) (s : State) where
  dead-steps : living s p ≡ None → step program p s ≡ None
  unfolding step_result_of
  dead-steps e = by s.halted where
    by : (b : Bool) → (if b then None else state_made (step_result_of_top program s p (living s p))) ≡ None
    by true = refl
    by false = ap (λ t. state_made (step_result_of_top program s p t)) e

  -- lives
  pub who-steps-lives : step program p s ≢ None → IsSome (living s p)
  who-steps-lives some = by (living s p) refl where
    by : (o : Option _) → living s p ≡ o → is_some o ≡ true
    by None e = absurd (some (dead-steps e))
    by (Some top) e = refl

  -- and the machine hasn't halted
  pub who-steps-runs : step program p s ≢ None → s.halted ≡ false
  who-steps-runs some = by s.halted refl where
    by : (b : Bool) → s.halted ≡ b → b ≡ false
    by true e = absurd (some (ap (λ b. if b then None else state_made (step_result_of program p s)) e))
    by false e = refl

module _ (program : Units) (p : ℕ) (again : ReplayMachine) (h : CanTurnAgain program p again) where
  pub running-now : again.machine.halted ≡ false
  running-now = h.after.after.shows.halted ∙ who-steps-runs program p (run program (made_by again)) h.steps

  pub living-now : HasLevels (snapshot_of again.machine) p
  living-now =
      (living-top program h.cells (made_by again) again.machine h.after p (who-steps-lives program p (run program (made_by again)) h.steps)).is_top.levels

  -- it doesn't wait
  pub not-waiting : (want : Want) (new : CoreState) → HasTurned program h.cells (made_by again) p (Waits want) new → ⊥
  not-waiting want new turned = h.steps (waits-idle program p (run program (made_by again)) (ap is_some turned.0.waits))

  -- its frame has a gap
  pub not-full : IsUnturned ArenaFull program h.cells (made_by again) p → ⊥
  not-full none = true≢false (sym h.laid ∙ ap is_some none.full)

-- what goes on takes turns
pub can-go : (tabled : DecodedImage) (p : ℕ) (again : ReplayMachine) → CanGoAgain tabled p again → CanTakeTurns tabled p again.machine
can-go tabled p again h = record {
  turn = record {
    after = (h.turn.cells, made_by again, h.turn.after);
    running = running-now tabled.image.now p again h.turn;
    living = living-now tabled.image.now p again h.turn;
  };
  tables = h.tables;
}

-- ---- the turns that were made

-- a turn that was a step
pub stepped : (us : Units) (cells : ℕ) (before : List ℕ) (p : ℕ) (turned : TurnOutcome) (new : CoreState)
    → ((want : Want) → turned ≢ Waits want)
    → HasTurned us cells before p turned new → IsMachineAfter us cells (before ++ p ∷ []) new
stepped us cells before p (Stepped changed) new other h = h.1
stepped us cells before p Purged new other h = h.1
stepped us cells before p (Waits want) new other h = absurd (other want refl)

-- ---- before a turn

module _ (program : Units) (replay : Replay) (made : List ℕ) (entry p : ℕ) (left : List (ℕ × ℕ)) (m : CoreState) (h : IsUnderWay program replay made ((entry, p) ∷ left) m) where
  -- its process lives
  pub lives-ahead : (top : Level × Process) × (living (run program made) p ≡ Some top)
  lives-ahead = by (living (run program made) p) refl (who-steps-lives program p (run program made) h.steps.0) where
    by : (o : Option (Level × Process)) → living (run program made) p ≡ o → IsSome o
        → (top : Level × Process) × (living (run program made) p ≡ Some top)
    by None e some = absurd (true≢false (sym some))
    by (Some top) e some = (top, e)

  pub running-ahead : m.halted ≡ false
  running-ahead = h.after.after.shows.halted ∙ who-steps-runs program p (run program made) h.steps.0

  -- it has its turn
  pub turn-ahead : IsItsTurn program p m
  turn-ahead = record {
    after = (replay.cells, made, h.after);
    running = running-ahead;
    living = (living-top program replay.cells made m h.after p (who-steps-lives program p (run program made) h.steps.0)).is_top.levels;
  }

-- no turn was made
pub makes-none : (program : Units) (p : ℕ) (m : CoreState) → MakesMoves program p m 0 m
makes-none program p m cells choices after = (choices, gone.none choices, after)
