-- Lists after a write.
use Rattle.std.proofs.Common.{◌≡◌, ℕ, zero, suc, ◌<◌, List, [], ◌∷◌, length, Some, slice_get, set, refl, ap, arith}

pub get-set_same : {A : Type 0} (xs : List A) (i : ℕ) (x : A) → i < length xs → slice_get (set xs i x) i ≡ Some x
get-set_same [] i x inside = absurd (omega arith)
get-set_same (y ∷ xs) zero x inside = refl
get-set_same (y ∷ xs) (suc i) x inside = get-set_same xs i x (omega arith)

pub get-set_other : {A : Type 0} (xs : List A) (i k : ℕ) (x : A) → (k ≡ i → ⊥) → slice_get (set xs i x) k ≡ slice_get xs k
get-set_other [] i k x other = refl
get-set_other (y ∷ xs) zero zero x other = absurd (other refl)
get-set_other (y ∷ xs) zero (suc k) x other = refl
get-set_other (y ∷ xs) (suc i) zero x other = refl
get-set_other (y ∷ xs) (suc i) (suc k) x other = get-set_other xs i k x (λ e. other (ap suc e))
