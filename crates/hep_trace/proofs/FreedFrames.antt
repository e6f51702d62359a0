-- Which frames a turn of a core has given back, by the ancestry of its process's top activation.
use Rattle.std.proofs.Common.{◌≡◌, ℕ, zero, suc, ◌++◌, Bool, true, false, List, [], ◌∷◌, Some, refl, sym, ap, ◌∙◌, subst}
use Rattle.hep_core.specs.CoreValues.{CoreValue, IsTurn, state_of}
use Rattle.hep_core.proofs.Histories.{schedule-waited, state-is, state-stepped}
use Rattle.hep_machine.specs.Words.{Level, Process, State, living, run, schedule_of, state_after, step}
use Rattle.hep_trace.specs.MadeTurns.{IsTurnMade}
use Rattle.hep_trace.proofs.Ancestors.{IsFreed, freed-stepping, freed-waiting}

module _ (old : CoreValue) (p : ℕ) (top : Level × Process) (lives : living (state_of old) p ≡ Some top) where
  abbrev a : ℕ
  a = top.0.activation

  abbrev ps : List ℕ
  ps = schedule_of old.history

  before : state_of old ≡ run old.program ps
  before = state-is old.program old.history

  lives-then : living (run old.program ps) p ≡ Some top
  lives-then = sym (ap (λ (z : State). living z p) before) ∙ lives

  by-turn : (new : CoreValue) (steps : ℕ) (blocked : Bool) → IsTurn old p steps blocked new → IsFreed (state_of old) (state_of new) p a
  by-turn new zero true h =
      let after : state_of new ≡ run old.program ps = ap state_of h.1
      ∙ (state-is old.program (old.history ++ record { process = p; steps = 0 } ∷ []) ∙ ap (run old.program) (schedule-waited old.history p)) in
      subst (λ (z : State). IsFreed z (state_of new) p a) (sym before) (
      subst (λ (z : State). IsFreed (run old.program ps) z p a) (sym after) (freed-waiting old.program ps ps p top lives-then refl))
  by-turn new (suc zero) false h =
      let qs : List ℕ = schedule_of (old.history ++ record { process = p; steps = 1 } ∷ []) in
      let made : state_of new ≡ run old.program qs = ap state_of h.2 ∙ state-is old.program (old.history ++ record { process = p; steps = 1 } ∷ []) in
      let last : state_after old.program (old.history ++ record { process = p; steps = 1 } ∷ []) ≡ h.0 = state-stepped old.program old.history p h.0 h.1 in
      let stepped : step old.program p (run old.program ps) ≡ Some (run old.program qs) = ap (step old.program p) (sym before) ∙ h.1
      ∙ ap (λ (z : State). Some z) (sym last ∙ state-is old.program (old.history ++ record { process = p; steps = 1 } ∷ [])) in
      subst (λ (z : State). IsFreed z (state_of new) p a) (sym before) (
      subst (λ (z : State). IsFreed (run old.program ps) z p a) (sym made) (freed-stepping old.program ps qs p top lives-then stepped))
  by-turn new _ _ h = absurd h

  pub freeing : (new : CoreValue) → IsTurnMade old p new → IsFreed (state_of old) (state_of new) p a
  freeing new made = by-turn new made.0 made.1 made.2
