-- Tests of numbers, what && and || come to, and places in lists: what many proofs use and no library has.
use Rattle.std.proofs.Common.{if◌then◌else◌, ◌≡◌, ◌≢◌, ℕ, zero, suc, ◌+◌, ◌<◌, Bool, true, false, ◌&&◌, ◌||◌, List, [], ◌∷◌, ◌++◌, length, drop, get_or, Option, Some, None, refl, sym, ap, ◌∙◌, subst, arith}
use Rattle.std.specs.Prelude.{IsSome, is_some, nat_eq, slice_get}
use Rattle.std.specs.List.{flat_map, list_any}
use Rattle.std.specs.Option.{option_map}
use Rattle.std.proofs.lemmas.Bool.Decides.{nat_tests}
use Rattle.std.proofs.lemmas.List.{drop_more}
use Rattle.std.proofs.lemmas.List.Folds.{list_any-append}
use Rattle.std.proofs.lemmas.Option.{none-some, same_Some}
use Rattle.std.proofs.Math.Bool.{beq}
use Rattle.hep_source.specs.Names.{index_where}

-- ---- numbers

-- a number is equal to itself
pub number-self : (n : ℕ) → nat_eq n n ≡ true
number-self n = grind (arith, nat_tests)

-- numbers are compared in either order
pub numbers-turned : (m n : ℕ) → nat_eq m n ≡ nat_eq n m
numbers-turned m n = grind (arith, nat_tests)

-- ---- tests

pub and-true : (b : Bool) → (b && true) ≡ b
and-true true = refl
and-true false = refl

pub and-false : (b : Bool) → (b && false) ≡ false
and-false true = refl
and-false false = refl

pub and-assoc : (b c d : Bool) → (b && (c && d)) ≡ ((b && c) && d)
and-assoc true c d = refl
and-assoc false c d = refl

pub or-true : (b : Bool) → (b || true) ≡ true
or-true true = refl
or-true false = refl

pub or-false : (b : Bool) → (b || false) ≡ b
or-false true = refl
or-false false = refl

pub or-assoc : (b c d : Bool) → ((b || c) || d) ≡ (b || (c || d))
or-assoc true c d = refl
or-assoc false c d = refl

-- a part of || that is there twice
pub or-again : (b c : Bool) → (b || (b || c)) ≡ (b || c)
or-again true c = refl
or-again false c = refl

-- the first two parts of || in the other order
pub or-turned : (b c d : Bool) → (b || (c || d)) ≡ (c || (b || d))
or-turned true true d = refl
or-turned true false d = refl
or-turned false c d = refl

-- the first two parts of || in the other order, and taken together
pub or-regrouped : (b c d : Bool) → (b || (c || d)) ≡ ((c || b) || d)
or-regrouped true true d = refl
or-regrouped true false d = refl
or-regrouped false true d = refl
or-regrouped false false d = refl

-- the two parts in the middle of || in the other order
pub or-swapped : (a b c d : Bool) → ((a || b) || (c || d)) ≡ ((a || c) || (b || d))
or-swapped true b c d = refl
or-swapped false true true d = refl
or-swapped false true false d = refl
or-swapped false false c d = refl

-- && distributes over ||
pub and-split : (a b t : Bool) → ((a && t) || (b && t)) ≡ ((a || b) && t)
and-split true b true = refl
and-split true b false = and-false b
and-split false b t = refl

-- a truth value is equal to itself
pub equal-self : (b : Bool) → beq b b ≡ true
equal-self true = refl
equal-self false = refl

-- ---- options

-- an option that has no value is None
pub none-from-not : {A : Type 0} (o : Option A) → is_some o ≡ false → o ≡ None
none-from-not None h = refl
none-from-not (Some x) h = cc

-- an option that has a value is Some of it
pub some_of : {A : Type 0} (o : Option A) → is_some o ≡ true → (x : A) × (o ≡ Some x)
some_of (Some x) e = (x, refl)
some_of None e = cc

-- an option that is not None has a value
pub some-if_not : {A : Type 0} (o : Option A) → o ≢ None → is_some o ≡ true
some-if_not None h = absurd (h refl)
some-if_not (Some x) h = refl

-- an option that is Some of nothing is None
pub none-if_not : {A : Type 0} (o : Option A) → ((x : A) → o ≡ Some x → ⊥) → o ≡ None
none-if_not None h = refl
none-if_not (Some x) h = absurd (h x refl)

pub some-there : {A : Type 0} (o : Option A) (x : A) → o ≡ Some x → IsSome o
some-there o x e = subst IsSome (sym e) refl

-- a mapped option has a value where the option has one
pub some-mapped : {A B : Type 0} (f : A → B) (o : Option A) → is_some (option_map f o) ≡ is_some o
some-mapped f None = refl
some-mapped f (Some x) = refl

pub there-mapped : {A B : Type 0} (f : A → B) (o : Option A) (y : B) → option_map f o ≡ Some y → is_some o ≡ true
there-mapped f None y e = absurd (none-some y e)
there-mapped f (Some x) y e = refl

-- ---- lists

-- an element of a list is at its place in the list with more behind it
pub at-front : {A : Type 0} (xs ys : List A) (i : ℕ) (x : A) → slice_get xs i ≡ Some x → slice_get (xs ++ ys) i ≡ Some x
at-front [] ys i x g = absurd (none-some x g)
at-front (z ∷ zs) ys zero x g = g
at-front (z ∷ zs) ys (suc i) x g = at-front zs ys i x g

pub at-last : {A : Type 0} (xs : List A) (y : A) → slice_get (xs ++ y ∷ []) (length xs) ≡ Some y
at-last [] y = refl
at-last (x ∷ xs) y = at-last xs y

-- an element of a list is at its place in what is left of the list
pub get-drop : {A : Type 0} (xs : List A) (i n : ℕ) → slice_get xs (i + n) ≡ slice_get (drop i xs) n
get-drop xs zero n = let e : 0 + n ≡ n = omega arith in ap (slice_get xs) e
get-drop [] (suc i) n = refl
get-drop (x ∷ xs) (suc i) n = let e : suc i + n ≡ suc (i + n) = omega arith in ap (slice_get (x ∷ xs)) e ∙ get-drop xs i n

-- an element of the second of two lists
pub get-second : {A : Type 0} (xs ys : List A) (k n : ℕ) → k ≡ length xs + n → slice_get (xs ++ ys) k ≡ slice_get ys n
get-second [] ys k n e = let same : k ≡ n = omega (arith, e) in ap (slice_get ys) same
get-second (x ∷ xs) ys zero n e = absurd (omega (arith, e))
get-second (x ∷ xs) ys (suc k) n e = get-second xs ys k n (omega (arith, e))

-- an index that a search finds is below the length of the list
pub index-below : {A : Type 0} (test : A → Bool) (xs : List A) (k : ℕ) → index_where test xs ≡ Some k → k < length xs
index-below test [] k e = absurd (none-some k e)
index-below test (x ∷ xs) k e = by (test x) (index_where test xs) (λ j f. index-below test xs j f) e
  where
    by : (b : Bool) (o : Option ℕ) → ((j : ℕ) → o ≡ Some j → j < length xs) → (if b then Some 0 else option_map suc o) ≡ Some k
        → k < suc (length xs)
    by true o less g = omega (arith, same_Some 0 k g)
    by false None less g = absurd (none-some k g)
    by false (Some j) less g = omega (arith, same_Some (suc j) k g, less j refl)

-- the first element of what is left of a list after i elements is the list's element i
pub dropped-first : {A : Type 0} (xs : List A) (i : ℕ) (x : A) (behind : List A) → drop i xs ≡ x ∷ behind → slice_get xs i ≡ Some x
dropped-first [] zero x behind e = cc
dropped-first [] (suc i) x behind e = cc
dropped-first (y ∷ ys) zero x behind e = cc
dropped-first (y ∷ ys) (suc i) x behind e = dropped-first ys i x behind e

pub drop_at : {A : Type 0} (xs : List A) (i : ℕ) (x : A) → i < length xs → x ≡ get_or xs i x → drop i xs ≡ x ∷ drop (i + 1) xs
drop_at xs i x h e = drop_more xs i x h ∙ ap (λ y. y ∷ drop (i + 1) xs) (sym e)

-- tests that agree on every element agree on the list
pub any-same : {A : Type 0} (p q : A → Bool) → ((x : A) → p x ≡ q x) → (xs : List A) → list_any p xs ≡ list_any q xs
any-same p q h xs = λ i. list_any (λ x. h x i) xs

-- no element passes a test that is always false
pub any-nothing : {A : Type 0} (xs : List A) → list_any (λ x. false) xs ≡ false
any-nothing [] = refl
any-nothing (x ∷ xs) = any-nothing xs

-- some element passes one of two tests where some passes the first, or some the second
pub any-or : {A : Type 0} (p q : A → Bool) (xs : List A) → list_any (λ x. p x || q x) xs ≡ (list_any p xs || list_any q xs)
any-or p q [] = refl
any-or p q (x ∷ xs) =
    ap (λ b. (p x || q x) || b) (any-or p q xs) ∙ or-swapped (p x) (q x) (list_any p xs) (list_any q xs)

-- a condition that does not depend on the element can be tested once
pub any-and : {A : Type 0} (p : A → Bool) (t : Bool) (xs : List A) → list_any (λ x. p x && t) xs ≡ (list_any p xs && t)
any-and p t [] = refl
any-and p t (x ∷ xs) = ap (λ b. (p x && t) || b) (any-and p t xs) ∙ and-split (p x) (list_any p xs) t

-- two lists can be searched for a pair in either order
pub any-turned : {A B : Type 0} (c : A → B → Bool) (xs : List A) (ys : List B)
    → list_any (λ x. list_any (c x) ys) xs ≡ list_any (λ y. list_any (λ x. c x y) xs) ys
any-turned c [] ys = sym (any-nothing ys)
any-turned c (x ∷ xs) ys =
    ap (λ b. list_any (c x) ys || b) (any-turned c xs ys) ∙ sym (any-or (c x) (λ y. list_any (λ z. c z y) xs) ys)

pub any-flat : {A B : Type 0} (test : B → Bool) (f : A → List B) (xs : List A) → list_any test (flat_map f xs) ≡ list_any (λ x. list_any test (f x)) xs
any-flat test f [] = refl
any-flat test f (x ∷ xs) = list_any-append test (f x) (flat_map f xs) ∙ ap (λ b. list_any test (f x) || b) (any-flat test f xs)
