-- The fault that was added to some is the one behind them.
use Rattle.std.proofs.Common.{◌≡◌, ℕ, List, [], ◌∷◌, length, refl, sym, ap, ◌∙◌, slice_get}
use Rattle.std.specs.Option.{option_map}
use Rattle.hep_machine.specs.declared.event.Fault.{Fault}
use Rattle.hep_event.specs.StepTexts.{fault_added}

pub added-is : (before faults : List Fault) (n : ℕ) → n ≡ length before → fault_added before faults ≡ option_map (λ (f : Fault). f.kind) (slice_get faults n)
added-is before faults n is = at before faults ∙ ap (λ k. option_map (λ (f : Fault). f.kind) (slice_get faults k)) (sym is) where
  at : (gs fs : List Fault) → fault_added gs fs ≡ option_map (λ (f : Fault). f.kind) (slice_get fs (length gs))
  at [] [] = refl
  at [] (f ∷ fs) = refl
  at (g ∷ gs) [] = refl
  at (g ∷ gs) (f ∷ fs) = at gs fs
