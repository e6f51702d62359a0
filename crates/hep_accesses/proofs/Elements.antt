-- What holds of the elements of a list, by cases on the list.
use Rattle.std.proofs.Common.{◌≡◌, inl, inr, ◌⊎◌, ℕ, zero, suc, Bool, true, false, cond, List, [], ◌∷◌, ◌++◌, length, take, Some, refl, sym, ap}
use Rattle.std.proofs.Common.{subst, arith, slice_get}
use Rattle.std.proofs.lemmas.Option.{none-some}
use Rattle.std.specs.List.{AllByRecursion, Contains, filter}

-- ---- elements

-- an element of a list, by cases: `Contains` has it by its index
pub data IsAmong {X : Type 0} (x : X) : List X → Type 0 where
  here : {xs : List X} → IsAmong x (x ∷ xs)
  behind : {y : X} {xs : List X} → IsAmong x xs → IsAmong x (y ∷ xs)

module _ {X : Type 0} where
  -- an element at an index is one
  pub among-contains : {x : X} (xs : List X) → Contains xs x → IsAmong x xs
  among-contains [] (k, below, e) = absurd (omega (arith, below))
  among-contains {x} (y ∷ ys) (zero, below, e) = subst (λ (z : X). IsAmong z (y ∷ ys)) e here
  among-contains (y ∷ ys) (suc k, below, e) = behind (among-contains ys (k, omega (arith, below), e))

  -- and an element is at an index
  pub contains-among : {x : X} {xs : List X} → IsAmong x xs → Contains xs x
  contains-among here = (0, omega arith, refl)
  contains-among (behind h) = let k = contains-among h in (suc k.0, omega (arith, k.1), k.2)

  -- the first element, or one of the others
  pub among-cases : {x y : X} {xs : List X} → IsAmong x (y ∷ xs) → (x ≡ y) ⊎ IsAmong x xs
  among-cases here = inl refl
  among-cases (behind h) = inr h

  -- no element is in an empty list
  pub among-none : {x : X} → IsAmong x [] → ⊥
  among-none h = elim h [ ]

  -- an element that passes a test is among those that do
  pub among-filtered : (p : X → Bool) {x : X} {xs : List X} → p x ≡ true → IsAmong x xs → IsAmong x (filter p xs)
  among-filtered p {x} e (here {xs = xs}) = subst (λ b. IsAmong x (cond b (x ∷ filter p xs) (filter p xs))) (sym e) here
  among-filtered p {x} e (behind {y = y} {xs = xs} h) = by (p y) (among-filtered p e h)
    where
      by : (b : Bool) → IsAmong x (filter p xs) → IsAmong x (cond b (y ∷ filter p xs) (filter p xs))
      by true k = behind k
      by false k = k

  -- ---- what holds of all

  -- what holds of all elements holds of each
  pub all-among : (P : X → Type 0) {x : X} {xs : List X} → AllByRecursion P xs → IsAmong x xs → P x
  all-among P a here = a.0
  all-among P a (behind h) = all-among P a.1 h

  -- what holds of everything holds of all elements
  pub all_of : (P : X → Type 0) → ((x : X) → P x) → (xs : List X) → AllByRecursion P xs
  all_of P h [] = tt
  all_of P h (x ∷ xs) = (h x, all_of P h xs)

  -- what follows holds of all elements too
  pub all-mapped : (P Q : X → Type 0) → ((x : X) → P x → Q x) → (xs : List X) → AllByRecursion P xs → AllByRecursion Q xs
  all-mapped P Q h [] a = tt
  all-mapped P Q h (x ∷ xs) a = (h x a.0, all-mapped P Q h xs a.1)

  -- what holds of all of two lists holds of all of each
  pub all-parts : (P : X → Type 0) (xs ys : List X) → AllByRecursion P (xs ++ ys) → AllByRecursion P xs × AllByRecursion P ys
  all-parts P [] ys a = (tt, a)
  all-parts P (x ∷ xs) ys a = let h = all-parts P xs ys a.1 in ((a.0, h.0), h.1)

  -- two facts of all elements
  pub all-both : (P Q : X → Type 0) (xs : List X) → AllByRecursion P xs → AllByRecursion Q xs → AllByRecursion (λ x. P x × Q x) xs
  all-both P Q [] a b = tt
  all-both P Q (x ∷ xs) a b = ((a.0, b.0), all-both P Q xs a.1 b.1)

  -- those that pass a test have what all have, and pass it
  pub all-passing : (P : X → Type 0) (q : X → Bool) (xs : List X) → AllByRecursion P xs
      → AllByRecursion (λ x. P x × (q x ≡ true)) (filter q xs)
  all-passing P q [] a = tt
  all-passing P q (x ∷ xs) a = by (q x) refl (all-passing P q xs a.1)
    where
      by : (b : Bool) → q x ≡ b → AllByRecursion (λ y. P y × (q y ≡ true)) (filter q xs)
          → AllByRecursion (λ y. P y × (q y ≡ true)) (cond b (x ∷ filter q xs) (filter q xs))
      by true e rest = ((a.0, e), rest)
      by false e rest = rest

  -- those that pass a test have what all have
  pub all-filtered : (P : X → Type 0) (q : X → Bool) (xs : List X) → AllByRecursion P xs → AllByRecursion P (filter q xs)
  all-filtered P q xs a = all-mapped (λ x. P x × (q x ≡ true)) P (λ x h. h.0) (filter q xs) (all-passing P q xs a)

  -- all that pass a test pass it
  pub all-passed : (q : X → Bool) (xs : List X) → AllByRecursion (λ x. q x ≡ true) (filter q xs)
  all-passed q xs =
      all-mapped (λ x. Unit {0} × (q x ≡ true)) (λ x. q x ≡ true) (λ x h. h.1) (filter q xs) (
      all-passing (λ x. Unit {0}) q xs (all_of (λ x. Unit {0}) (λ x. tt) xs))

  -- each element is one
  pub all-among_itself : (xs : List X) → AllByRecursion (λ x. IsAmong x xs) xs
  all-among_itself [] = tt
  all-among_itself (x ∷ xs) =
      (here, all-mapped (λ y. IsAmong y xs) (λ y. IsAmong y (x ∷ xs)) (λ y k. behind k) xs (all-among_itself xs))

  -- ---- the first elements

  -- the first elements of a list are its own
  pub slice_get-of_take : (xs : List X) (k m : ℕ) (x : X) → slice_get (take k xs) m ≡ Some x → slice_get xs m ≡ Some x
  slice_get-of_take xs zero m x e = absurd (none-some x e)
  slice_get-of_take [] (suc k) m x e = absurd (none-some x e)
  slice_get-of_take (y ∷ ys) (suc k) zero x e = e
  slice_get-of_take (y ∷ ys) (suc k) (suc m) x e = slice_get-of_take ys k m x e

  -- there are k elements before the one at index k
  pub length-of_take : (xs : List X) (k : ℕ) (x : X) → slice_get xs k ≡ Some x → length (take k xs) ≡ k
  length-of_take [] k x e = absurd (none-some x e)
  length-of_take (y ∷ ys) zero x e = refl
  length-of_take (y ∷ ys) (suc k) x e = ap suc (length-of_take ys k x e)
