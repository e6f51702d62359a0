-- Names among lists of names, and where they stand.
use Rattle.std.proofs.Common.{◌≡◌, ℕ, suc, Bool, true, false, List, [], ◌∷◌, ◌++◌, Some, refl, sym, ap, ◌∙◌, if◌then◌else◌, slice_get}
use Rattle.std.specs.List.{filter}
use Rattle.std.specs.Option.{option_map}
use Rattle.hep_machine.specs.Words.{Name, index_among, is_among, same_name, with_name, with_names}
use Rattle.hep_source.proofs.NameTests.{equal_names}

module _ (x : Name) where
  pub among-behind : (xs ys : List Name) → is_among x ys ≡ true → is_among x (xs ++ ys) ≡ true
  among-behind [] ys h = h
  among-behind (y ∷ xs) ys h = by_test (same_name x y) (among-behind xs ys h) where
    by_test : (b : Bool) → is_among x (xs ++ ys) ≡ true → (if b then true else is_among x (xs ++ ys)) ≡ true
    by_test true rest = refl
    by_test false rest = rest

  pub among-before : (xs ys : List Name) → is_among x xs ≡ true → is_among x (xs ++ ys) ≡ true
  among-before [] ys h = absurd cc
  among-before (y ∷ xs) ys h = by_test (among-before xs ys) (same_name x y) h where
    by_test : (is_among x xs ≡ true → is_among x (xs ++ ys) ≡ true) → (b : Bool) → (if b then true else is_among x xs) ≡ true → (if b then true else is_among x (xs ++ ys)) ≡ true
    by_test rest true h = refl
    by_test rest false h = rest h

  among-one : (xs : List Name) (y : Name) → is_among x xs ≡ true → is_among x (with_name xs y) ≡ true
  among-one xs y h = by_test (is_among y xs) where
    by_test : (b : Bool) → is_among x (if b then xs else xs ++ y ∷ []) ≡ true
    by_test true = h
    by_test false = among-before xs (y ∷ []) h

  among-itself : (xs : List Name) (y : Name) → same_name x y ≡ true → is_among x (with_name xs y) ≡ true
  among-itself xs y same = by_test (is_among y xs) refl where
    here : is_among x (y ∷ []) ≡ true
    here = rw same refl

    by_test : (b : Bool) → is_among y xs ≡ b → is_among x (if b then xs else xs ++ y ∷ []) ≡ true
    by_test true t = ap (λ z. is_among z xs) (equal_names x y same) ∙ t
    by_test false t = among-behind xs (y ∷ []) here

  among-kept : (xs ys : List Name) → is_among x xs ≡ true → is_among x (with_names xs ys) ≡ true
  among-kept xs [] h = h
  among-kept xs (y ∷ ys) h = among-kept (with_name xs y) ys (among-one xs y h)

  pub among-added : (xs ys : List Name) → is_among x ys ≡ true → is_among x (with_names xs ys) ≡ true
  among-added xs [] h = absurd cc
  among-added xs (y ∷ ys) h = by_test (among-added (with_name xs y) ys) (same_name x y) refl h where
    by_test : (is_among x ys ≡ true → is_among x (with_names (with_name xs y) ys) ≡ true) → (b : Bool) → same_name x y ≡ b → (if b then true else is_among x ys) ≡ true → is_among x (with_names (with_name xs y) ys) ≡ true
    by_test rest true t h = among-kept (with_name xs y) ys (among-itself xs y t)
    by_test rest false t h = rest h

  pub among-passing : (test : Name → Bool) (xs : List Name) → test x ≡ true → is_among x xs ≡ true → is_among x (filter test xs) ≡ true
  among-passing test [] t h = absurd cc
  among-passing test (y ∷ ys) t h = by_name (among-passing test ys t) (same_name x y) refl h where
    here : same_name x y ≡ true → is_among x (y ∷ filter test ys) ≡ true
    here same = rw same refl

    behind : (b : Bool) → is_among x (filter test ys) ≡ true → is_among x (if b then y ∷ filter test ys else filter test ys) ≡ true
    behind true h = among-behind (y ∷ []) (filter test ys) h
    behind false h = h

    by_name : (is_among x ys ≡ true → is_among x (filter test ys) ≡ true) → (b : Bool) → same_name x y ≡ b → (if b then true else is_among x ys) ≡ true → is_among x (if test y then y ∷ filter test ys else filter test ys) ≡ true
    by_name rest true same h =
        let passes : test y ≡ true = ap test (sym (equal_names x y same)) ∙ t in
        rw passes (here same)
    by_name rest false same h = behind (test y) (rest h)

  -- what passes a test is among all
  pub among-filtered : (test : Name → Bool) (xs : List Name) → is_among x (filter test xs) ≡ true → is_among x xs ≡ true
  among-filtered test [] h = absurd cc
  among-filtered test (y ∷ ys) h = by_test (test y) h (among-filtered test ys) where
    by_name : (b : Bool) → (if b then true else is_among x (filter test ys)) ≡ true → (is_among x (filter test ys) ≡ true → is_among x ys ≡ true)
        → (if b then true else is_among x ys) ≡ true
    by_name true h rest = refl
    by_name false h rest = rest h

    behind : (b : Bool) → is_among x ys ≡ true → (if b then true else is_among x ys) ≡ true
    behind true h = refl
    behind false h = h

    by_test : (b : Bool) → is_among x (if b then y ∷ filter test ys else filter test ys) ≡ true → (is_among x (filter test ys) ≡ true → is_among x ys ≡ true)
        → is_among x (y ∷ ys) ≡ true
    by_test true h rest = by_name (same_name x y) h rest
    by_test false h rest = behind (same_name x y) (rest h)

  -- something that is in a list stands at its index
  pub indexed : (xs : List Name) → is_among x xs ≡ true → (i : ℕ) × (index_among x xs ≡ Some i) × (slice_get xs i ≡ Some x)
  indexed [] h = absurd cc
  indexed (y ∷ ys) h = by_test (indexed ys) (same_name x y) refl h where
    by_test : (is_among x ys ≡ true → (i : ℕ) × (index_among x ys ≡ Some i) × (slice_get ys i ≡ Some x)) → (b : Bool) → same_name x y ≡ b → (if b then true else is_among x ys) ≡ true
        → (i : ℕ) × ((if b then Some 0 else option_map suc (index_among x ys)) ≡ Some i) × (slice_get (y ∷ ys) i ≡ Some x)
    by_test rest true t h = (0, refl, ap (λ z. Some z) (sym (equal_names x y t)))
    by_test rest false t h = let found = rest h in (suc found.0, ap (option_map suc) found.1, found.2)
