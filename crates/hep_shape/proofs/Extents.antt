-- Sizes of dimensions: none is 0.
use Rattle.std.proofs.Common.{◌≡◌, ℕ, ◌*◌, ◌^◌, ◌<◌, ◌≤◌, ℤ, pos, negsuc, ◌+ℤ◌, ◌-ℤ◌, ◌≤ℤ◌, Bool, true, false, Option, Some, None, refl, arith, int_le, IfSome}
use Rattle.std.specs.Option.{unwrap_or}
use Rattle.std.proofs.Math.Nat.{mul-le-mul}
use Rattle.std.proofs.lemmas.Int.{ints}
use Rattle.hep_machine.specs.declared.shape.Bound.{Bound}
use Rattle.hep_machine.specs.Words.{Bounds, natural, size_between, extent, is_below, is_within, is_between}

-- what follows whichever way a test goes
pub by_test : {P : Type 0} (t : Bool) → (t ≡ true → P) → (t ≡ false → P) → P
by_test true f g = f refl
by_test false f g = g refl

pub some_natural : (z : ℤ) → pos 1 ≤ℤ z → 1 ≤ natural z
some_natural (pos n) h = omega (arith, ints)
some_natural (negsuc n) h = absurd (omega (arith, ints))

pub le_of_test : (x y : ℤ) → int_le x y ≡ true → x ≤ℤ y
le_of_test x y h = grind (arith, ints)

-- a dimension with a subscript in it has an element, and so has one whose upper bound is not below its lower one
some_size : (l : ℤ) (u : Option ℤ) (s : ℤ) → int_le l s ≡ true → is_below s u ≡ true → 1 ≤ unwrap_or (size_between l u) 1
some_size l None s h k = omega arith
some_size l (Some u) s h k =
    let low : l ≤ℤ s = le_of_test l s h in
    let high : s ≤ℤ u = le_of_test s u k in
    some_natural ((u -ℤ l) +ℤ pos 1) (omega (arith, ints))

pub some_extent : (b : Bound) (s : ℤ) → is_within b s ≡ true → 1 ≤ unwrap_or (extent b) 1
some_extent b s h = some_size b.lower b.upper s (grind arith) (grind arith)

between_size : (l : ℤ) (u : Option ℤ) (bs : Bounds) → is_between l u bs ≡ true → IfSome (size_between l u) (λ e. 1 ≤ e)
between_size l None bs h = tt
between_size l (Some u) bs h =
    let up : l ≤ℤ u = le_of_test l u h in
    some_natural ((u -ℤ l) +ℤ pos 1) (omega (arith, ints))

pub between_extent : (b : Bound) (bs : Bounds) → is_between b.lower b.upper bs ≡ true → IfSome (extent b) (λ e. 1 ≤ e)
between_extent b bs h = between_size b.lower b.upper bs h

-- an extent is at most 2^64, so a product with a number of elements that is counted is far below 2^128
pub wide_product : (m n : ℕ) → m ≤ 2 ^ 20 → n ≤ 2 ^ 64 → m * n < 2 ^ 128
wide_product m n h k = omega (arith, mul-le-mul h k)

pub wide_extent : (m : ℕ) (o : Option ℕ) → m ≤ 2 ^ 20 → IfSome o (λ n. n ≤ 2 ^ 64) → m * unwrap_or o 1 < 2 ^ 128
wide_extent m None h k = omega arith
wide_extent m (Some n) h k = wide_product m n h k
