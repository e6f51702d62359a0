-- What a step of a process makes of a machine, whichever turns led to it: docs/MACHINE.md, "Steps".
use Rattle.std.specs.Prelude.{◌≡◌, ◌≢◌, ℕ, true, List, [], ◌∷◌, ◌++◌, replicate, None}
use Rattle.hep_machine.specs.Words.{Units, run, step}
use Rattle.hep_state.specs.declared.core_state.CoreState.{CoreState}
use Rattle.hep_state.specs.Words.{AfterTurns, HasNoGap, IsMachineAfter}
use Rattle.hep_explore.specs.Independence.{AreIndependentSteps}
use Rattle.hep_explore.specs.Pure.{is_pure}
use Rattle.hep_explore.specs.declared.successor.Successor.{Successor}
use Rattle.hep_explore.specs.declared.successor.Successor.TheVariants.{Full, Machine, Nothing}

-- after these choices process p has a step, and it leads to what a machine keeps
pub record StepsTo (program : Units) (cells : ℕ) (before : List ℕ) (p : ℕ) (new : CoreState) : Type 0 where
  pub stepped : step program p (run program before) ≢ None
  pub after : IsMachineAfter program cells (before ++ p ∷ []) new

-- after all turns that lead to a machine process p has such a step, or one that makes an activation for whose frame there is no gap, or it
-- has none
abbrev pub IsSuccessor : Units → ℕ → CoreState → Successor → Type 0
IsSuccessor program p old (Machine new) = AfterTurns program old (λ cells before. StepsTo program cells before p new)
IsSuccessor program p old Full = AfterTurns program old (λ cells before. HasNoGap program cells before p)
IsSuccessor program p old Nothing = AfterTurns program old (λ cells before. step program p (run program before) ≡ None)

-- ---- pure steps

-- the next step of process p is pure after all turns that lead to a machine
abbrev pub IsPureAhead : Units → ℕ → CoreState → Type 0
IsPureAhead program p m = AfterTurns program m (λ cells before. is_pure program p (run program before) ≡ true)

-- after these choices process p has n pure steps, one after the other, and they lead to what a machine keeps
pub record GoesPurely (program : Units) (cells : ℕ) (before : List ℕ) (p n : ℕ) (new : CoreState) : Type 0 where
  pub are_pure : AreIndependentSteps program (is_pure program) (run program before) (replicate n p)
  pub after : IsMachineAfter program cells (before ++ replicate n p) new

-- so it is after all turns that lead to another machine, and as many activations and processes were made in both
pub record MakesPureSteps (program : Units) (p : ℕ) (old : CoreState) (n : ℕ) (new : CoreState) : Type 0 where
  pub goes : AfterTurns program old (λ cells before. GoesPurely program cells before p n new)
  pub activations : new.activations ≡ old.activations
  pub made : new.made ≡ old.made
