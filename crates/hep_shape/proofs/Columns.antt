-- Numbers of elements, by columns: one more subscript, and where an element is past the last that is counted.
use Rattle.std.proofs.Common.{◌≡◌, ℕ, zero, suc, ◌+◌, ◌*◌, ◌^◌, ◌<◌, ◌≤◌, ℤ, ◌-ℤ◌, true, false, nat_le, if◌then◌else◌, List, [], ◌∷◌, length, get_or, drop, min, Option, Some, None, refl, ap, sym, ◌∙◌, arith}
use Rattle.std.specs.Option.{unwrap_or}
use Rattle.std.proofs.lemmas.List.{at_drop_more}
use Rattle.hep_machine.specs.declared.shape.Bound.{Bound}
use Rattle.hep_machine.specs.Words.{Bounds, natural, extent, is_within, is_most, sum, before_element}
use Rattle.hep_shape.proofs.Extents.{by_test, some_extent}

-- a number of an element, where it is one that is counted
abbrev pub counted : Option ℕ → Option ℕ
counted o = if is_most o then o else None

-- what is added twice is added at once
sum_sum : (m n : ℕ) (o : Option ℕ) → sum m (sum n o) ≡ sum (m + n) o
sum_sum m n None = refl
sum_sum m n (Some k) = ap Some (omega arith)

-- whatever is added, a number past the last stays past it
counted_past : (m : ℕ) (o : Option ℕ) → 2 ^ 20 < m → counted (sum m o) ≡ None
counted_past m None h = refl
counted_past m (Some n) h =
    let past : nat_le (m + n) (2 ^ 20) ≡ false = grind arith in
    rw past refl

-- one subscript more, within its bounds or not
pub before_within : (z : ℕ) (b : Bound) (bs : Bounds) (s : ℤ) (ss : List ℤ) → is_within b s ≡ true → before_element z (b ∷ bs) (s ∷ ss) ≡ sum (natural (s -ℤ b.lower) * z) (before_element (z * unwrap_or (extent b) 1) bs ss)
before_within z b bs s ss h = rw h refl

pub before_outside : (z : ℕ) (b : Bound) (bs : Bounds) (s : ℤ) (ss : List ℤ) → is_within b s ≡ false → before_element z (b ∷ bs) (s ∷ ss) ≡ None
before_outside z b bs s ss h = rw h refl

number_within : (m z : ℕ) (b : Bound) (bs : Bounds) (s : ℤ) (ss : List ℤ) → is_within b s ≡ true → sum m (before_element z (b ∷ bs) (s ∷ ss)) ≡ sum (m + natural (s -ℤ b.lower) * z) (before_element (z * unwrap_or (extent b) 1) bs ss)
number_within m z b bs s ss h = rw (before_within z b bs s ss h) (sum_sum _ _ _)

-- no dimension is of size 0, so a step that leads past the last element does so in the next dimension too
far_size : (z e : ℕ) → 2 ^ 20 ≤ z → 1 ≤ e → 2 ^ 20 ≤ z * e
far_size z e h k = grind arith

-- where a step leads past the last element, it does not matter how far
one_step : (m z y n : ℕ) (o p : Option ℕ) → 1 ≤ m → 2 ^ 20 ≤ z → 2 ^ 20 ≤ y → counted (sum m o) ≡ counted (sum m p) → counted (sum (m + n * z) o) ≡ counted (sum (m + n * y) p)
one_step m z y zero o p some far more same =
    let left : m + 0 * z ≡ m = omega arith in
    let right : m + 0 * y ≡ m = omega arith in
    rw (left, right) same
one_step m z y (suc n) o p some far more same =
    let left : 2 ^ 20 < m + suc n * z = grind arith in
    let right : 2 ^ 20 < m + suc n * y = grind arith in
    counted_past _ o left ∙ sym (counted_past _ p right)

far_steps : (m z y : ℕ) (bs : Bounds) (ss : List ℤ) → 1 ≤ m → 2 ^ 20 ≤ z → 2 ^ 20 ≤ y → counted (sum m (before_element z bs ss)) ≡ counted (sum m (before_element y bs ss))
far_steps m z y [] [] some far more = refl
far_steps m z y [] (s ∷ ss) some far more = refl
far_steps m z y (b ∷ bs) [] some far more = refl
far_steps m z y (b ∷ bs) (s ∷ ss) some far more =
    by_test (is_within b s)
    (λ h. let e = unwrap_or (extent b) 1 in
    let one : 1 ≤ e = some_extent b s h in
    ap counted (number_within m z b bs s ss h) ∙ one_step m z y (natural (s -ℤ b.lower)) _ _ some far more (far_steps m (z * e) (y * e) bs ss some (far_size z e far one) (far_size y e more one)) ∙ ap counted (sym (number_within m y b bs s ss h)))
    (λ h. rw (before_outside z b bs s ss h, before_outside y b bs s ss h) refl)

-- the next dimension: the step from one of its elements to the next may be counted as 1,048,576, where it is more
at_most : (m n : ℕ) (bs : Bounds) (ss : List ℤ) → 1 ≤ m → counted (sum m (before_element (min (2 ^ 20) n) bs ss)) ≡ counted (sum m (before_element n bs ss))
at_most m n bs ss some =
    by_test (nat_le n (2 ^ 20))
    (λ h. let e : min (2 ^ 20) n ≡ n = grind arith in
    rw e refl)
    (λ h. let e : min (2 ^ 20) n ≡ 2 ^ 20 = grind arith in
    let far : 2 ^ 20 ≤ n = grind arith in
    rw e (far_steps m (2 ^ 20) n bs ss some (omega arith) far))

pub next_number : (bs : Bounds) (ss : List ℤ) (k : ℕ) (b : Bound) (s : ℤ) (m z : ℕ) → 1 ≤ m → k < length bs → k < length ss → b ≡ get_or bs k b → s ≡ get_or ss k s → is_within b s ≡ true → counted (sum (m + natural (s -ℤ b.lower) * z) (before_element (min (2 ^ 20) (z * unwrap_or (extent b) 1)) (drop (k + 1) bs) (drop (k + 1) ss))) ≡ counted (sum m (before_element z (drop k bs) (drop k ss)))
next_number bs ss k b s m z some p q at_b at_s h =
    let bounds : drop k bs ≡ b ∷ drop (k + 1) bs = at_drop_more (λ xs. xs) bs k b p ∙ ap (λ x. x ∷ drop (k + 1) bs) (sym at_b) in
    let subscripts : drop k ss ≡ s ∷ drop (k + 1) ss = at_drop_more (λ xs. xs) ss k s q ∙ ap (λ x. x ∷ drop (k + 1) ss) (sym at_s) in
    rw (bounds, subscripts) (at_most (m + natural (s -ℤ b.lower) * z) (z * unwrap_or (extent b) 1) (drop (k + 1) bs) (drop (k + 1) ss) (omega arith) ∙ ap counted (sym (number_within m z b (drop (k + 1) bs) s (drop (k + 1) ss) h)))

-- no element where the number of subscripts is wrong
pub other_length : (z : ℕ) (bs : Bounds) (ss : List ℤ) → (length ss ≡ length bs → ⊥) → before_element z bs ss ≡ None
other_length z [] [] h = absurd (h refl)
other_length z [] (s ∷ ss) h = refl
other_length z (b ∷ bs) [] h = refl
other_length z (b ∷ bs) (s ∷ ss) h =
    let shorter : length ss ≡ length bs → ⊥ = λ e. h (ap suc e) in
    by_test (is_within b s)
    (λ w. rw (before_within z b bs s ss w, other_length (z * unwrap_or (extent b) 1) bs ss shorter) refl)
    (λ w. before_outside z b bs s ss w)
