-- Dimensions and shapes of arrays, and the number of an element: X3.9-1978, section 5.
use Rattle.std.specs.Prelude.{ℕ, ◌+◌, ◌*◌, ◌^◌, ℤ, pos, negsuc, ◌+ℤ◌, ◌-ℤ◌, int_le, Bool, true, false, ◌&&◌, nat_le, if◌then◌else◌, List, [], ◌∷◌, length, Option, Some, None}
use Rattle.std.specs.Option.{unwrap_or}
use Rattle.hep_machine.specs.declared.shape.Bound.{Bound}

-- the bounds of each dimension; there is no upper bound where `*` is written: 5.1.1
abbrev pub Bounds : Type 0
Bounds = List Bound

abbrev pub natural : ℤ → ℕ
natural (pos n) = n
natural (negsuc n) = 0

-- the size of a dimension; none where its upper bound is open: 5.2.2
abbrev pub size_between : ℤ → Option ℤ → Option ℕ
size_between l None = None
size_between l (Some u) = Some (natural ((u -ℤ l) +ℤ pos 1))

abbrev pub extent : Bound → Option ℕ
extent b = size_between b.lower b.upper

abbrev pub product : Option ℕ → Option ℕ → Option ℕ
product None n = None
product (Some m) None = None
product (Some m) (Some n) = Some (m * n)

-- the number of elements of an array; none where its last bound is open: 5.2.3
abbrev pub elements : Bounds → Option ℕ
elements [] = Some 1
elements (b ∷ bs) = product (extent b) (elements bs)

abbrev pub most_elements : ℕ
most_elements = 2 ^ 20

-- whether bounds make a dimension, by the dimensions after it: the upper bound isn't below the lower one (5.1.1.2), and only the last
-- upper bound may be open (5.1.2)
abbrev pub is_between : ℤ → Option ℤ → Bounds → Bool
is_between l None [] = true
is_between l None (b ∷ bs) = false
is_between l (Some u) bs = int_le l u

abbrev pub are_dimensions : Bounds → Bool
are_dimensions [] = true
are_dimensions (b ∷ bs) = is_between b.lower b.upper bs && are_dimensions bs

abbrev pub is_most : Option ℕ → Bool
is_most None = true
is_most (Some n) = nat_le n most_elements

-- whether bounds make a shape: one to seven dimensions (5.1.1), and no more than 1,048,576 elements (docs/LANGUAGE.md, 7)
abbrev pub is_shape : Bounds → Bool
is_shape bs = nat_le 1 (length bs) && (nat_le (length bs) 7 && (are_dimensions bs && is_most (elements bs)))

-- ---- elements: 5.2.4 and 5.4

abbrev pub is_below : ℤ → Option ℤ → Bool
is_below s None = true
is_below s (Some u) = int_le s u

abbrev pub is_within : Bound → ℤ → Bool
is_within b s = int_le b.lower s && is_below s b.upper

abbrev pub sum : ℕ → Option ℕ → Option ℕ
sum m None = None
sum m (Some n) = Some (m + n)

-- the number of elements before the one with these subscripts, where a step in the first dimension passes `size` elements: 5.4.3, table 1
abbrev pub before_element : ℕ → Bounds → List ℤ → Option ℕ
before_element size [] [] = Some 0
before_element size [] (s ∷ ss) = None
before_element size (b ∷ bs) [] = None
before_element size (b ∷ bs) (s ∷ ss) =
    if is_within b s then sum (natural (s -ℤ b.lower) * size) (before_element (size * unwrap_or (extent b) 1) bs ss) else None

-- the number of an element, counted from 1; none where the number of subscripts is wrong or a subscript is outside its bounds; a scalar has
-- one element
abbrev pub element_number : Bounds → List ℤ → Option ℕ
element_number bs ss = sum 1 (before_element 1 bs ss)

-- the number of an element; none where it is above 1,048,576, also where the last bound is open: docs/LANGUAGE.md, 7
abbrev pub counted_element : Bounds → List ℤ → Option ℕ
counted_element bs ss = if is_most (element_number bs ss) then element_number bs ss else None

-- whether an array has no more elements than these; an array with an open bound always fits: 15.9.3.3
abbrev pub fits : Bounds → ℕ → Bool
fits bs rest = nat_le (unwrap_or (elements bs) 0) rest
