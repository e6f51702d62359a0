-- Numbers of elements of an array: one dimension more, and where there are more than an array may have.
use Rattle.std.proofs.Common.{◌≡◌, ℕ, ◌+◌, ◌*◌, ◌^◌, ◌<◌, ◌≤◌, ℤ, true, false, ◌||◌, nat_le, [], ◌∷◌, length, get_or, drop, Option, Some, None, refl, ap, sym, ◌∙◌, arith, IfSome}
use Rattle.std.specs.List.{list_any}
use Rattle.std.specs.Option.{is_none}
use Rattle.std.proofs.Math.Nat.{mul_assoc}
use Rattle.std.proofs.lemmas.Bool.{and_parts}
use Rattle.std.proofs.lemmas.List.{at_drop_more}
use Rattle.hep_machine.specs.declared.shape.Bound.{Bound}
use Rattle.hep_machine.specs.Words.{Bounds, size_between, extent, product, elements, is_between, are_dimensions}
use Rattle.hep_shape.proofs.Columns.{counted}
use Rattle.hep_shape.proofs.Extents.{between_extent}

-- there is no number of elements where some upper bound is open
one_open : (l : ℤ) (u : Option ℤ) (o : Option ℕ) → is_none (product (size_between l u) o) ≡ (is_none u || is_none o)
one_open l None o = refl
one_open l (Some u) None = refl
one_open l (Some u) (Some n) = refl

pub some_open : (bs : Bounds) → list_any (λ b. is_none b.upper) bs ≡ is_none (elements bs)
some_open [] = refl
some_open (b ∷ bs) = ap (λ t. is_none b.upper || t) (some_open bs) ∙ sym (one_open b.lower b.upper (elements bs))

-- two dimensions are as one of the product of their sizes
product_product : (m n : ℕ) (o : Option ℕ) → product (Some m) (product (Some n) o) ≡ product (Some (m * n)) o
product_product m n None = refl
product_product m n (Some k) = ap Some (sym (mul_assoc m n k))

-- no dimension is of size 0, so a product past the limit stays past it
past_times : (m e : ℕ) → 2 ^ 20 < m → 1 ≤ e → 2 ^ 20 < m * e
past_times m e h k = grind arith

one_more : (m : ℕ) (o p : Option ℕ) → IfSome o (λ e. 1 ≤ e) → ((n : ℕ) → 2 ^ 20 < n → counted (product (Some n) p) ≡ None) → 2 ^ 20 < m → counted (product (Some m) (product o p)) ≡ None
one_more m None p some past h = refl
one_more m (Some e) p some past h = ap counted (product_product m e p) ∙ past (m * e) (past_times m e h some)

product_past : (bs : Bounds) → are_dimensions bs ≡ true → (m : ℕ) → 2 ^ 20 < m → counted (product (Some m) (elements bs)) ≡ None
product_past [] d m h =
    let past : nat_le (m * 1) (2 ^ 20) ≡ false = grind arith in
    rw past refl
product_past (b ∷ bs) d m h =
    let parts = and_parts (is_between b.lower b.upper bs) (are_dimensions bs) d in
    one_more m (extent b) (elements bs) (between_extent b bs parts.0) (product_past bs parts.1) h

-- so a loop over the dimensions may stop there
pub past_count : (bs : Bounds) (i : ℕ) (d : Bound) (m e : ℕ) → i < length bs → are_dimensions (drop i bs) ≡ true → product (Some m) (elements (drop i bs)) ≡ elements bs → extent (get_or bs i d) ≡ Some e → 2 ^ 20 < m * e → counted (elements bs) ≡ None
past_count bs i d m e lt dimensions so_far size h =
    let more : drop i bs ≡ get_or bs i d ∷ drop (i + 1) bs = at_drop_more (λ xs. xs) bs i d lt in
    let both : are_dimensions (get_or bs i d ∷ drop (i + 1) bs) ≡ true = sym (ap are_dimensions more) ∙ dimensions in
    let parts = and_parts _ (are_dimensions (drop (i + 1) bs)) both in
    let all : elements bs ≡ product (Some (m * e)) (elements (drop (i + 1) bs)) =
    sym so_far ∙ ap (λ xs. product (Some m) (elements xs)) more ∙ ap (λ o. product (Some m) (product o (elements (drop (i + 1) bs)))) size ∙ product_product m e (elements (drop (i + 1) bs)) in
    ap counted all ∙ product_past (drop (i + 1) bs) parts.1 (m * e) h
