-- Worked rows: what the cells of a small subroutine's frame and of COMMON are for.
use Rattle.std.specs.Prelude.{◌≡◌, ℕ, pos, false, List, [], ◌∷◌, Some, None, refl}
use Rattle.hep_machine.specs.Words.{Declarator, Integer, Name, Occurrence, Form, Assign, Common, Declare, Do, End, Subroutine, Statement, Tree, constant, occurrence, Units}
use Rattle.hep_source.specs.declared.declaration.UpperBound.TheVariants as bound
use Rattle.hep_source.specs.declared.value.Value.TheVariants as value
use Rattle.hep_layout.specs.Words.{header, argument, variable, iteration, bounds, frame_row, common_row, block_row, first_of_part, place_of_part, owner_in, first_in_common}

-- ---- the parts of statements

abbrev pub letter : ℕ → Name
letter c = record { asynchronous = false; letters = c ∷ 32 ∷ 32 ∷ 32 ∷ 32 ∷ 32 ∷ [] }

abbrev pub at : ℕ → Occurrence
at c = record { name = letter c; position = 0 }

abbrev pub number : ℕ → Tree
number n = constant (value.Int (pos n))

abbrev pub scalar : ℕ → Declarator
scalar c = record { occurrence = at c; dimensions = [] }

-- an array whose upper bound is an expression
abbrev pub array : ℕ → Tree → Declarator
array c t = record { occurrence = at c; dimensions = record { lower = None; upper = bound.Expression t } ∷ [] }

abbrev pub statement : Form → Statement
statement form = record { line = 1; label = None; conditions = []; form = form }

-- ---- SUBROUTINE S(A,N), INTEGER A(N),B(3), COMMON K,L(2), DO 10 I=1,N, B(1)=I, END

abbrev pub fill : List Statement
fill =
    statement (Subroutine (at 83) (at 65 ∷ at 78 ∷ []))
    ∷ statement (Declare Integer (array 65 (occurrence (at 78)) ∷ array 66 (number 3) ∷ []))
    ∷ statement (Common (record { block = None; entries = scalar 75 ∷ array 76 (number 2) ∷ [] } ∷ []))
    ∷ statement (Do (record { terminal = 10; variable = at 73; initial = number 1; limit = occurrence (at 78); increment = None }))
    ∷ statement (Assign (record { occurrence = at 66; subscripts = number 1 ∷ [] }) (occurrence (at 73)))
    ∷ statement End
    ∷ []

fill_row : frame_row fill ≡ (header, 1) ∷ (argument (letter 65), 2) ∷ (argument (letter 78), 2) ∷ (variable (letter 66), 3) ∷ (variable (letter 73), 1) ∷ (iteration 3, 2) ∷ (bounds (letter 65), 2) ∷ (bounds (letter 78), 0) ∷ []
fill_row = refl

fill_firsts : (first_of_part fill (argument (letter 78)) ≡ 3) × (first_of_part fill (variable (letter 66)) ≡ 5) × (first_of_part fill (variable (letter 73)) ≡ 8) × (first_of_part fill (iteration 3) ≡ 9) × (first_of_part fill (bounds (letter 65)) ≡ 11)
fill_firsts = (refl, refl, refl, refl, refl)

-- B(3), and no element behind it
fill_places : (place_of_part fill (variable (letter 66)) 2 ≡ Some 7) × (place_of_part fill (variable (letter 66)) 3 ≡ None)
fill_places = (refl, refl)

fill_owners : (owner_in (frame_row fill) 7 ≡ Some (variable (letter 66), 2)) × (owner_in (frame_row fill) 10 ≡ Some (iteration 3, 1)) × (owner_in (frame_row fill) 13 ≡ None)
fill_owners = (refl, refl, refl)

-- ---- COMMON J(4) /Z/ W, END, before it

abbrev pub program : Units
program =
    (statement (Common (record { block = None; entries = array 74 (number 4) ∷ [] } ∷ record { block = Some (at 90); entries = scalar 87 ∷ [] } ∷ [])) ∷ statement End ∷ [])
    ∷ fill
    ∷ []

program_row : common_row program ≡ (None, 4) ∷ (Some (letter 90), 1) ∷ []
program_row = refl

fill_block : block_row fill None ≡ (letter 75, 1) ∷ (letter 76, 2) ∷ []
fill_block = refl

fill_names : (first_in_common program fill None (letter 75) ≡ 0) × (first_in_common program fill None (letter 76) ≡ 1)
fill_names = (refl, refl)
