-- The steps of a run in another order: docs/MACHINE.md, "The order of steps".
use Rattle.std.specs.Prelude.{◌≡◌, ℕ, Bool, true, List, [], ◌∷◌, length, Option, Some}
use Rattle.std.specs.List.{range_with_len}
use Rattle.std.specs.Option.{option_and_then}
use Rattle.hep_accesses.specs.Events.{Event}
use Rattle.hep_accesses.specs.Races.{IsAccessOf, StepAccess, conflicts}

module _ {X : Type 0} (Keeps : X → X → Type 0) where
  -- x is in the list, and no element in front of it has to stay before it; the list without x
  pub data IsTaken : X → List X → List X → Type 0 where
    first : {x : X} {xs : List X} → IsTaken x (x ∷ xs) xs
    further : {x y : X} {xs ys : List X} → (Keeps y x → ⊥) → IsTaken x xs ys → IsTaken x (y ∷ xs) (y ∷ ys)

  -- the same elements, each of them before those before which it has to stay
  pub data IsReordering : List X → List X → Type 0 where
    finished : IsReordering [] []
    taking : {x : X} {xs ys zs : List X} → IsTaken x xs ys → IsReordering ys zs → IsReordering xs (x ∷ zs)

-- ---- runs of any machine

module _ {S X : Type 0} (step : X → S → Option S) where
  -- the state to which these lead, one after the other, where each of them has a step
  abbrev pub final_state : List X → S → Option S
  final_state [] s = Some s
  final_state (x ∷ xs) s = option_and_then (final_state xs) (step x s)

  -- neighbours that needn't stay in their order can be exchanged
  abbrev pub NeighboursCommute : (X → X → Type 0) → Type 0
  NeighboursCommute Keeps =
      (x y : X) (s t : S) → (Keeps y x → ⊥) → final_state (y ∷ x ∷ []) s ≡ Some t → final_state (x ∷ y ∷ []) s ≡ Some t

-- ---- runs as events

abbrev pub steps_of : {L S : Type 0} → List (Event L S) → List ℕ
steps_of es = range_with_len 0 (length es)

-- an access of step i and one of step j conflict
pub record HaveConflict {L S : Type 0} (same : L → L → Bool) (es : List (Event L S)) (i j : ℕ) : Type 0 where
  pub first : StepAccess L S
  pub second : StepAccess L S
  pub is_first : IsAccessOf es first
  pub is_second : IsAccessOf es second
  pub at_first : first.step ≡ i
  pub at_second : second.step ≡ j
  pub conflict : conflicts same first.access second.access ≡ true
