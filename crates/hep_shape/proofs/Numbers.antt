-- The number of an element is one of the numbers of an array's elements, where its last bound is not open.
use Rattle.std.proofs.Common.{◌≡◌, ℕ, ◌+◌, ◌*◌, ◌<◌, ◌≤◌, ℤ, pos, negsuc, ◌+ℤ◌, ◌-ℤ◌, ◌≤ℤ◌, true, List, [], ◌∷◌, Option, Some, None, arith, int_le, IfSome}
use Rattle.std.specs.Option.{unwrap_or}
use Rattle.std.proofs.Math.Nat.{mul-le-mul_right, mul_assoc, mul_comm, add-mul}
use Rattle.std.proofs.lemmas.Int.{ints}
use Rattle.hep_machine.specs.declared.shape.Bound.{Bound}
use Rattle.hep_machine.specs.Words.{Bounds, natural, size_between, extent, is_below, is_within, sum, product, elements, before_element, element_number}
use Rattle.hep_shape.proofs.Columns.{before_within, before_outside}
use Rattle.hep_shape.proofs.Extents.{by_test, le_of_test}

-- so many elements before one, and a step of one dimension more, are no more than there are
abbrev IsRoom : ℕ → Option ℕ → Option ℕ → Type 0
IsRoom z None p = Unit {0}
IsRoom z (Some k) None = Unit {0}
IsRoom z (Some k) (Some m) = k + z ≤ z * m

natural_below : (x y : ℤ) → pos 0 ≤ℤ x → x ≤ℤ y → natural x < natural (y +ℤ pos 1)
natural_below (pos m) (pos n) h k = grind (arith, ints)
natural_below (pos m) (negsuc n) h k = absurd (omega (arith, ints))
natural_below (negsuc m) y h k = absurd (omega (arith, ints))

offset_below : (l : ℤ) (u : Option ℤ) (s : ℤ) → int_le l s ≡ true → is_below s u ≡ true → IfSome (size_between l u) (λ e. natural (s -ℤ l) < e)
offset_below l None s h k = tt
offset_below l (Some u) s h k =
    let low : l ≤ℤ s = le_of_test l s h in
    let high : s ≤ℤ u = le_of_test s u k in
    natural_below (s -ℤ l) (u -ℤ l) (omega (arith, ints)) (omega (arith, ints))

offset_within : (b : Bound) (s : ℤ) → is_within b s ≡ true → IfSome (extent b) (λ e. natural (s -ℤ b.lower) < e)
offset_within b s h = offset_below b.lower b.upper s (grind arith) (grind arith)

-- one dimension more
more_room : (z d : ℕ) (o e p : Option ℕ) → IfSome e (λ n. d < n) → IsRoom (z * unwrap_or e 1) o p → IsRoom z (sum (d * z) o) (product e p)
more_room z d None e p lt h = tt
more_room z d (Some k) None p lt h = tt
more_room z d (Some k) (Some e) None lt h = tt
more_room z d (Some k) (Some e) (Some m) lt h =
    let step : (d + 1) * z ≤ e * z = mul-le-mul_right z (omega arith) in
    let other : e * z ≡ z * e = mul_comm e z in
    let all : z * e * m ≡ z * (e * m) = mul_assoc z e m in
    let one : (d + 1) * z ≡ d * z + 1 * z = add-mul d 1 z in
    omega (arith, step, h, other, all, one)

room : (z : ℕ) (bs : Bounds) (ss : List ℤ) → IsRoom z (before_element z bs ss) (elements bs)
room z [] [] = omega arith
room z [] (s ∷ ss) = tt
room z (b ∷ bs) [] = tt
room z (b ∷ bs) (s ∷ ss) =
    by_test (is_within b s)
    (λ h. rw (before_within z b bs s ss h) (more_room z (natural (s -ℤ b.lower)) _ (extent b) (elements bs) (offset_within b s h) (room (z * unwrap_or (extent b) 1) bs ss)))
    (λ h. rw (before_outside z b bs s ss h) tt)

few : (o p : Option ℕ) (n m : ℕ) → IsRoom 1 o p → sum 1 o ≡ Some n → p ≡ Some m → n ≤ m
few None p n m h j k = absurd (grind arith)
few (Some i) None n m h j k = absurd (grind arith)
few (Some i) (Some l) n m h j k = grind arith

pub number_fits : (bs : Bounds) (ss : List ℤ) (n m : ℕ) → element_number bs ss ≡ Some n → elements bs ≡ Some m → n ≤ m
number_fits bs ss n m j k = few (before_element 1 bs ss) (elements bs) n m (room 1 bs ss) j k
