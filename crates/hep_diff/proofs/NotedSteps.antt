-- The next step of a process, before its turn.
use Rattle.std.proofs.Common.{◌≡◌, ℕ, List, ◌∷◌, Option, Some, sym, ap, ◌∙◌}
use Rattle.std.specs.Option.{option_map}
use Rattle.hep_event.specs.Sites.{LivesAfter}
use Rattle.hep_fold.proofs.MachineTurns.{lives-ahead, running-ahead}
use Rattle.hep_fold.specs.Observers.{IsUnderWay, Replay}
use Rattle.hep_machine.specs.Words.{Level, Process, Units, run}
use Rattle.hep_state.specs.declared.core_state.CoreState.{CoreState}
use Rattle.hep_diff.specs.ProcessSteps.{deed_at, deed_by}
use Rattle.hep_diff.specs.declared.process_step.ProcessStep.{ProcessStep}

module _ (program : Units) (replay : Replay) (made : List ℕ) (entry p : ℕ) (left : List (ℕ × ℕ)) (m : CoreState) (h : IsUnderWay program replay made ((entry, p) ∷ left) m) where
  pub lives-there : (top : Level × Process) × LivesAfter program replay.cells made m p top
  lives-there =
      let top = lives-ahead program replay made entry p left m h in
      (top.0, record { after = h.after; running = running-ahead program replay made entry p left m h; lives = top.1 })

  pub deed-noted : (d : ProcessStep)
      → ((cells : ℕ) (choices : List ℕ) (top : Level × Process) → LivesAfter program cells choices m p top → d ≡ deed_at program (run program choices) entry top.0)
      → deed_by program (run program made) entry p ≡ Some d
  deed-noted d is =
      ap (λ (o : Option (Level × Process)). option_map (λ (top : Level × Process). deed_at program (run program made) entry top.0) o) lives-there.1.lives
      ∙ ap (λ x. Some x) (sym (is replay.cells made lives-there.0 lives-there.1))
