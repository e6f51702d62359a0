-- Elements of lists that are put together.
use Rattle.std.proofs.Common.{◌≡◌, ℕ, zero, suc, ◌<◌, Bool, true, false, ◌||◌, List, [], ◌∷◌, ◌++◌, refl, sym, ap, subst, ◌∙◌, arith, ⊎_elim, true≢false}
use Rattle.std.specs.List.{Contains, flat_map, list_any, slice_index_or}
use Rattle.std.proofs.lemmas.List.Elements.{Contains-append_left, Contains-append_right, Contains-append_cases}
use Rattle.hep_source.proofs.Tests.{or-true}

pub none-contained : {A C : Type 0} (x : A) → Contains [] x → C
none-contained x h = let below = h.1 in absurd (omega arith)

pub contains-here : {A : Type 0} (x : A) (xs : List A) → Contains (x ∷ xs) x
contains-here x xs = (0, omega arith, refl)

pub contains-more : {A : Type 0} (x y : A) (ys : List A) → Contains ys x → Contains (y ∷ ys) x
contains-more x y ys h = Contains-append_right (y ∷ []) ys x h

pub contains-one : {A : Type 0} (y x : A) → Contains (y ∷ []) x → x ≡ y
contains-one y x h = by h.0 h.1 h.2
  where
    by : (k : ℕ) → k < 1 → slice_index_or (y ∷ []) k x ≡ x → x ≡ y
    by zero below e = sym e
    by (suc k) below e = absurd (omega arith)

pub contains-flat : {A B : Type 0} (f : A → List B) (xs : List A) (x : A) (v : B) → Contains xs x → Contains (f x) v → Contains (flat_map f xs) v
contains-flat f [] x v h c = none-contained x h
contains-flat f (y ∷ ys) x v h c =
    ⊎_elim (λ one. Contains-append_left (f y) (flat_map f ys) v (subst (λ z. Contains (f z) v) (contains-one y x one) c))
    (λ more. Contains-append_right (f y) (flat_map f ys) v (contains-flat f ys x v more c)) (Contains-append_cases (y ∷ []) ys x h)

-- what comes of each element comes of an element of the whole
pub flat-within : {A B C : Type 0} (f : A → List B) (xs : List A) (v : B) → ((x : A) → Contains xs x → Contains (f x) v → C) → Contains (flat_map f xs) v → C
flat-within f [] v k h = none-contained v h
flat-within f (y ∷ ys) v k h =
    ⊎_elim (λ here. k y (contains-here y ys) here) (λ there. flat-within f ys v (λ x c. k x (contains-more x y ys c)) there)
    (Contains-append_cases (f y) (flat_map f ys) v h)

pub any-within : {A C : Type 0} (p : A → Bool) (xs : List A) → list_any p xs ≡ true → ((x : A) → Contains xs x → p x ≡ true → C) → C
any-within {C = C} p [] h k = absurd (true≢false (sym h))
any-within {C = C} p (x ∷ xs) h k = by (p x) refl (λ m. any-within p xs m (λ y c. k y (contains-more y x xs c)))
  where
    by : (b : Bool) → p x ≡ b → (list_any p xs ≡ true → C) → C
    by true e more = k x (contains-here x xs) e
    by false e more = more (ap (λ b. b || list_any p xs) (sym e) ∙ h)

pub contained-any : {A : Type 0} (p : A → Bool) (xs : List A) (x : A) → Contains xs x → p x ≡ true → list_any p xs ≡ true
contained-any p [] x h e = none-contained x h
contained-any p (y ∷ ys) x h e =
    ⊎_elim (λ one. ap (λ z. p z || list_any p ys) (sym (contains-one y x one)) ∙ ap (λ b. b || list_any p ys) e)
    (λ more. ap (λ b. p y || b) (contained-any p ys x more e) ∙ or-true (p y)) (Contains-append_cases (y ∷ []) ys x h)

-- each element of one list is one of the other
abbrev pub Within : {A : Type 0} → List A → List A → Type 0
Within {A} vs ws = (v : A) → Contains vs v → Contains ws v

pub within-append : {A : Type 0} (us vs ws : List A) → Within us ws → Within vs ws → Within (us ++ vs) ws
within-append us vs ws h k v c = ⊎_elim (h v) (k v) (Contains-append_cases us vs v c)
