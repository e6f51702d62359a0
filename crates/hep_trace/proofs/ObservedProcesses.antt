-- A process of a core that is looked at, in the machine that the core keeps.
use Rattle.std.proofs.Common.{◌≡◌, Some, sym, ap, ◌∙◌, ℕ}
use Rattle.hep_core.specs.CoreValues.{CoreValue, state_of}
use Rattle.hep_core.proofs.Histories.{state-is}
use Rattle.hep_machine.specs.Words.{Level, Process, State, living, run, schedule_of}
use Rattle.hep_trace.specs.declared.reference.LiveProcess.{LiveProcess}
use Rattle.hep_trace.specs.FreedFrames.{top_in}
use Rattle.hep_trace.specs.References.{top_after}
use Rattle.hep_trace.specs.Observations.{IsAheadOf}

-- it lives in the state after the turns of the core's history
pub lives-after : (core : CoreValue) (p : ℕ) (top : Level × Process) → living (state_of core) p ≡ Some top → living (run core.program (schedule_of core.history)) p ≡ Some top
lives-after core p top lives = ap (λ (s : State). living s p) (sym (state-is core.program core.history)) ∙ lives

module _ (core : CoreValue) (ahead : LiveProcess) (top : Level × Process) (h : IsAheadOf core ahead top) where
  pub state-same : run ahead.image.now (schedule_of core.history) ≡ state_of core
  state-same = ap (λ u. run u (schedule_of core.history)) h.program ∙ sym (state-is core.program core.history)

  pub top-same : top_after ahead.image.now (schedule_of core.history) ahead.process top ≡ top_in core ahead.process top
  top-same = λ i. record { state = state-same i; process = ahead.process; level = top.0; below = top.1 }

  pub lives-in : living (state_of core) ahead.process ≡ Some top
  lives-in = ap (λ (s : State). living s ahead.process) (sym state-same) ∙ h.ahead_is.lives.lives
