-- No element of distinct ones has two indexes.
use Rattle.std.proofs.Common.{◌≡◌, ℕ, zero, suc, Bool, true, false, List, [], ◌∷◌, Some, refl, sym, ap, ◌∙◌, slice_get}
use Rattle.std.proofs.lemmas.Bool.{true≢false}
use Rattle.std.proofs.lemmas.Option.{none-some, same_Some}
use Rattle.std.specs.List.{AllByRecursion, IsDistinct}

module _ {K : Type 0} (eq : K → K → Bool) (itself : (x : K) → eq x x ≡ true) where
  apart : (x : K) (xs : List K) (m : ℕ) → AllByRecursion (λ y. eq x y ≡ false) xs → slice_get xs m ≡ Some x → ⊥
  apart x [] m h e = none-some x e
  apart x (y ∷ ys) zero h e = true≢false (sym (itself x) ∙ ap (eq x) (sym (same_Some y x e)) ∙ h.0)
  apart x (y ∷ ys) (suc m) h e = apart x ys m h.1 e

  pub one-index : (xs : List K) → IsDistinct eq xs → (n m : ℕ) (x : K) → slice_get xs n ≡ Some x → slice_get xs m ≡ Some x → n ≡ m
  unfolding IsDistinct
  one-index [] h n m x e f = absurd (none-some x e)
  one-index (y ∷ ys) h zero zero x e f = refl
  one-index (y ∷ ys) h zero (suc m) x e f = absurd (apart y ys m h.0 (f ∙ sym e))
  one-index (y ∷ ys) h (suc n) zero x e f = absurd (apart y ys n h.0 (e ∙ sym f))
  one-index (y ∷ ys) h (suc n) (suc m) x e f = ap suc (one-index ys h.1 n m x e f)
