-- The status of a run with races, and the lines that are shown with them.
use Rattle.std.proofs.Common.{◌≡◌, false, not, nat_eq, if◌then◌else◌, List, [], ◌∷◌, length, ap, arith, refl}
use Rattle.std.proofs.lemmas.Bool.Decides.{nat_tests}
use Rattle.hep_inspection.specs.Races.{status_of}
use Rattle.hep_outcome.specs.declared.status.Status.TheVariants.{Done, Raced}

-- 9 where there are rows
pub status-is : {R : Type 0} (rs : List R) → (if not (nat_eq (length rs) 0) then Raced else Done) ≡ status_of rs
status-is [] = refl
status-is (r ∷ rs) = ap (λ b. if not b then Raced else Done) {y = false} (grind (arith, nat_tests))
