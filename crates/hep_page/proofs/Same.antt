-- How many lines are the same, counted one by one.
use Rattle.std.proofs.Common.{◌≡◌, ℕ, zero, suc, ◌+◌, ◌<◌, ◌≤◌, true, false, List, [], ◌∷◌, length, drop, get_or, map, reverse, refl, ap, ◌∙◌, arith, add-one}
use Rattle.std.specs.Prelude.{◌-◌}
use Rattle.std.proofs.lemmas.List.{drop_all, get_or-map, get_or-reverse, length-map, length-reverse}
use Rattle.std.specs.Str.{bytes_eq}
use Rattle.hep_page.specs.Edits.{same_front}

-- where the lines at i are the same one more is counted
more : (xs ys : List (List ℕ)) (i : ℕ) → i < length xs → i < length ys → bytes_eq (get_or xs i []) (get_or ys i []) ≡ true
    → same_front (drop i xs) (drop i ys) ≡ suc (same_front (drop (suc i) xs) (drop (suc i) ys))
more [] ys i h k e = absurd (omega arith)
more (x ∷ xs) [] i h k e = absurd (omega arith)
more (x ∷ xs) (y ∷ ys) zero h k e = rw e refl
more (x ∷ xs) (y ∷ ys) (suc i) h k e = more xs ys i (omega arith) (omega arith) e

-- where they differ none is
other : (xs ys : List (List ℕ)) (i : ℕ) → i < length xs → i < length ys → bytes_eq (get_or xs i []) (get_or ys i []) ≡ false
    → same_front (drop i xs) (drop i ys) ≡ 0
other [] ys i h k e = absurd (omega arith)
other (x ∷ xs) [] i h k e = absurd (omega arith)
other (x ∷ xs) (y ∷ ys) zero h k e = rw e refl
other (x ∷ xs) (y ∷ ys) (suc i) h k e = other xs ys i (omega arith) (omega arith) e

-- nor where there are no new lines
none-new : (xs : List (List ℕ)) → same_front xs [] ≡ 0
none-new [] = refl
none-new (x ∷ xs) = refl

-- the lines at i are the same, and one more is counted
pub counts-on : (xs ys : List (List ℕ)) (i all : ℕ) (x y : List ℕ) → i < length xs → i < length ys → get_or xs i [] ≡ x
    → get_or ys i [] ≡ y → bytes_eq x y ≡ true
    → i + same_front (drop i xs) (drop i ys) ≡ all → i + 1 + same_front (drop (i + 1) xs) (drop (i + 1) ys) ≡ all
counts-on xs ys i all x y h k u v e so_far =
    let next = more xs ys i h k (rw (u, v) e) in
    rw add-one (omega arith)

-- the lines at i differ, and all are counted
pub counts-all : (xs ys : List (List ℕ)) (i all : ℕ) (x y : List ℕ) → i < length xs → i < length ys → get_or xs i [] ≡ x
    → get_or ys i [] ≡ y → bytes_eq x y ≡ false
    → i + same_front (drop i xs) (drop i ys) ≡ all → i ≡ all
counts-all xs ys i all x y h k u v e so_far =
    let next = other xs ys i h k (rw (u, v) e) in
    omega arith

-- there is no new line at i
pub new-end : (xs ys : List (List ℕ)) (i all : ℕ) → length ys ≤ i → i + same_front (drop i xs) (drop i ys) ≡ all → i ≡ all
new-end xs ys i all h so_far =
    let next : same_front (drop i xs) (drop i ys) ≡ 0 = rw (drop_all {X = List ℕ} i ys h) (none-new (drop i xs)) in
    omega arith

-- the line at i of those that are read so, from the end
pub at-end : {X : Type 0} (f : X → List ℕ) (xs : List X) (i : ℕ) (d : X) → i < length xs
    → get_or (reverse (map f xs)) i [] ≡ f (get_or xs (length xs - 1 - i) d)
at-end f xs i d h =
    get_or-reverse (map f xs) i [] (rw (length-map xs f) h)
    ∙ ap (λ (n : ℕ). get_or (map f xs) (n - 1 - i) []) (length-map xs f) ∙ get_or-map f xs (length xs - 1 - i) d [] (omega arith)

-- there are as many
pub within-end : {X : Type 0} (f : X → List ℕ) (xs : List X) (i : ℕ) → i < length xs → i < length (reverse (map f xs))
within-end f xs i h = rw (length-reverse (map f xs), length-map xs f) h
