-- Tables under storage units, of which one entry is written.
use Rattle.std.proofs.Common.{◌≡◌, ℕ, Bool, true, false, not, ◌&&◌, if◌then◌else◌, nat_eq, List, ◌∷◌, Option, Some, map, refl, sym, ap, ◌∙◌}
use Rattle.std.specs.Global.{Vec}
use Rattle.std.specs.List.{filter}
use Rattle.std.proofs.lemmas.Bool.{and_parts, eqb-true}
use Rattle.hep_accesses.specs.Detector.{is_repeated, with_access}
use Rattle.hep_accesses.specs.Races.{StepAccess as AStepAccess}
use Rattle.hep_races.specs.declared.event.StepAccess.{StepAccess}
use Rattle.hep_races.specs.declared.storage_unit.StorageUnit.{StorageUnit}
use Rattle.hep_races.specs.Observed.{step_access_in, unit_eq}
use Rattle.hep_races.specs.Tables.{accesses_from}

-- what the test takes for one is one
pub unit-is : (v w : StorageUnit) → unit_eq v w ≡ true → v ≡ w
unit-is v w h =
    let parts = and_parts (nat_eq v.owner w.owner) (nat_eq v.name w.name && nat_eq v.element w.element) h in
    let more = and_parts (nat_eq v.name w.name) (nat_eq v.element w.element) parts.1 in
    let owner : v.owner ≡ w.owner = eqb-true v.owner w.owner parts.0 in
    let name : v.name ≡ w.name = eqb-true v.name w.name more.0 in
    let element : v.element ≡ w.element = eqb-true v.element w.element more.1 in
    λ i. record { owner = owner i; name = name i; element = element i }

-- ---- the latest accesses

-- the repeated one is left out
abbrev others : StepAccess → List (AStepAccess StorageUnit ℕ) → List (AStepAccess StorageUnit ℕ)
others y ds = filter (λ d. not (is_repeated unit_eq nat_eq (step_access_in y) d)) ds

-- the table after an access, whose list is written
pub latest-after : (f g : StorageUnit → Option (Vec StepAccess)) (y : StepAccess) (olds : List (AStepAccess StorageUnit ℕ))
    (new : Vec StepAccess) → accesses_from (f y.access.at) ≡ olds → map step_access_in new.items ≡ step_access_in y ∷ others y olds
    → ((at : StorageUnit) → g at ≡ (if unit_eq y.access.at at then Some new else f at))
    → (at : StorageUnit) → accesses_from (g at) ≡ with_access unit_eq nat_eq (step_access_in y) (λ u. accesses_from (f u)) at
latest-after f g y olds new was is after at =
    ap accesses_from (after at) ∙ by (unit_eq y.access.at at) refl
  where
    by : (b : Bool) → unit_eq y.access.at at ≡ b
        → accesses_from (if b then Some new else f at)
        ≡ (if b then step_access_in y ∷ others y (accesses_from (f at)) else accesses_from (f at))
    by true e = is ∙ ap (λ ds. step_access_in y ∷ others y ds) (sym was ∙ ap (λ u. accesses_from (f u)) (unit-is y.access.at at e))
    by false e = refl
