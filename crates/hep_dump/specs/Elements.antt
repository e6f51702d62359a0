-- The text of an element of an array, by its place among the elements: X3.9-1978, 5.4.
use Rattle.std.specs.Prelude.{ℕ, suc, ◌/◌, ◌%◌, ℤ, pos, ◌+ℤ◌, ◌-ℤ◌, List, [], ◌∷◌, ◌++◌, codes, Option, Some, None}
use Rattle.std.specs.Fmt.{signed_decimal}
use Rattle.hep_machine.specs.Words.{natural}
use Rattle.hep_machine.specs.declared.shape.Bound.{Bound}

-- the number of subscripts of a dimension; no array in COMMON has an open one
abbrev pub size_between : ℤ → Option ℤ → ℕ
size_between l None = 1
size_between l (Some u) = suc (natural (u -ℤ l))

abbrev pub size : Bound → ℕ
size b = size_between b.lower b.upper

-- the subscript of a dimension, for the element that has i others before it in this dimension and the later ones
abbrev pub subscript : Bound → ℕ → ℤ
subscript b i = b.lower +ℤ pos (i % size b)

-- those of further dimensions
abbrev pub further_text : List Bound → ℕ → List ℕ
further_text [] i = []
further_text (b ∷ bs) i = codes "," ++ signed_decimal (subscript b i) ++ further_text bs (i / size b)

-- those of all dimensions, of which a scalar has none
abbrev pub subscripts_text : List Bound → ℕ → List ℕ
subscripts_text [] i = []
subscripts_text (b ∷ bs) i = codes "(" ++ signed_decimal (subscript b i) ++ further_text bs (i / size b) ++ codes ")"
