-- A run in place: no step comes behind its private ones, so that the machine is the one behind them.
use Rattle.std.proofs.Common.{◌≡◌, ℕ, ◌≤◌, length, sym, ap, subst, arith}
use Rattle.hep_machine.specs.Words.{Units}
use Rattle.hep_code.specs.Words.{deepest}
use Rattle.hep_step.specs.Simulation.{unit_code}
use Rattle.hep_advance.proofs.SilentTurns.{none-made}
use Rattle.hep_advance.specs.SilentRuns.{MakesMoves}
use Rattle.hep_state.specs.declared.core_state.CoreState.{CoreState}
use Rattle.hep_state.specs.Words.{HasLevels, IsItsTurn, IsSameButTop, KeepsRoom, LivesOn, snapshot_of}
use Rattle.hep_state.proofs.OtherProcesses.{beside-shown}
use Rattle.hep_state.proofs.UnchangedStates.{top-shown}
use Rattle.hep_commit.specs.UndoLogs.{UndoLogValue}
use Rattle.hep_commit.specs.Application.{HasMadePrivate, HasRestored, IsSavedOf}
use Rattle.hep_commit.specs.TurnsInPlace.{IsAsBefore}
use Rattle.hep_commit.proofs.AfterSegments.{AreAsBefore}
use Rattle.hep_commit.proofs.TurnInPlace.{all-as-before, lives-behind, turn-behind, turn-there}

-- a process lives on in the machine in which it lives
lives-still : (p : ℕ) (old new : CoreState) → HasLevels (snapshot_of old) p → new ≡ old → LivesOn p 0 old new
lives-still p old new living same =
    record {
      living = subst (λ (m : CoreState). HasLevels (snapshot_of m) p) (sym same) living;
      running = ap (λ (m : CoreState). m.halted) same;
      made = ap (λ (m : CoreState). m.made) same;
      counted = omega (arith, ap (λ (m : CoreState). m.activations) same);
      others = beside-shown p (snapshot_of old) (snapshot_of new) (ap snapshot_of same);
    }

module _ (program : Units) (p : ℕ) (old mid : CoreState) (n : ℕ) (made : HasMadePrivate program p old n mid) (moves : MakesMoves program p old n mid) (others : mid ≡ record old { frames = mid.frames; processes = mid.processes }) (new : CoreState) (same : new ≡ mid) where
  still-there : LivesOn p 0 mid new
  still-there = lives-still p mid new (turn-behind program p old mid n made moves others).living same

  pub lives-there : LivesOn p 0 old new
  lives-there = lives-behind program p old mid n made moves others new still-there

  module _ (saved : UndoLogValue) (is : IsSavedOf program p old saved) where
    none-more : MakesMoves program p mid 0 new
    none-more = subst (λ m. MakesMoves program p mid 0 m) (sym same) (none-made program p mid)

    same-top : IsSameButTop program p (snapshot_of mid) (snapshot_of new)
    same-top = top-shown p program (snapshot_of mid) (snapshot_of new) (ap snapshot_of same)

    -- it can be put back
    pub turn-here : (turn : IsItsTurn program p new) × (length saved.operands ≤ deepest (unit_code program turn.living.level.unit))
    turn-here = turn-there program p old mid n made moves others new still-there none-more same-top saved is

    pub put-back : AreAsBefore → (restored : CoreState) → HasRestored program p saved new restored → KeepsRoom new restored → restored.made ≡ new.made → IsAsBefore program old restored
    put-back = all-as-before program p old mid n made moves others new still-there none-more same-top saved is
