-- Subscripts as Fortran writes them: X3.9-1978, 5.4, docs/RUNS.md, "What everything holds".
use Rattle.std.specs.Prelude.{ℕ, ◌/◌, ◌%◌, pos, ◌+ℤ◌, Bool, true, false, List, [], ◌∷◌, ◌++◌, codes, Option, Some, None}
use Rattle.std.specs.Fmt.{signed_decimal}
use Rattle.hep_machine.specs.Words.{Bounds, extent}

-- the subscript in the first dimension, counted from 0, of the element that has n others before it
abbrev pub index_in : Option ℕ → ℕ → ℕ
index_in None n = n
index_in (Some size) n = n % size

-- and the number of whole passes through that dimension before it
abbrev pub steps_behind : Option ℕ → ℕ → ℕ
steps_behind None n = 0
steps_behind (Some size) n = n / size

-- between two subscripts
abbrev pub comma : Bool → List ℕ
comma true = codes ","
comma false = []

-- its subscripts; the first one varies fastest (5.2.4). The flag says that others come before these
abbrev pub subscripts_text : Bool → Bounds → ℕ → List ℕ
subscripts_text follows [] n = []
subscripts_text follows (b ∷ bs) n =
    (comma follows ++ signed_decimal (b.lower +ℤ pos (index_in (extent b) n))) ++ subscripts_text true bs (steps_behind (extent b) n)
