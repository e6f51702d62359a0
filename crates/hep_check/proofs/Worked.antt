-- Worked lines of units and common blocks.
use Rattle.std.proofs.Common.{◌≡◌, ℕ, pos, Bool, true, false, Some, None, List, [], ◌∷◌, ◌++◌, replicate, take, refl, codes}
use Rattle.std.specs.Fmt.{digits}
use Prim.Native.String.{String}
use Rattle.hep_machine.specs.Words.{Tree, constant, occurrence, Declarator, Expression, Integer, Name, Occurrence, Form, Statement, Int}
use Rattle.hep_source.specs.declared.statement.Form.TheVariants as form
use Rattle.hep_check.specs.Listing.{listing}

-- ---- statements

abbrev spelled : Bool → String → Name
spelled sign word = record { asynchronous = sign; letters = take 6 (codes word ++ replicate 6 32) }

abbrev named : Bool → String → Occurrence
named sign word = record { name = spelled sign word; position = 0 }

abbrev statement : Form → Statement
statement f = record { line = 1; label = None; conditions = []; form = f }

abbrev integer : ℕ → Tree
integer n = constant (Int (pos n))

-- a scalar, and an array of so many elements
abbrev scalar : Bool → String → Declarator
scalar sign word = record { occurrence = named sign word; dimensions = [] }

abbrev array : String → ℕ → Declarator
array word n = record { occurrence = named false word; dimensions = record { lower = None; upper = Expression (integer n) } ∷ [] }

abbrev ending : Statement
ending = statement form.End

-- ---- units

-- PROGRAM P with INTEGER $X,$D,N
producer : List Statement
producer =
    statement (form.Program (named false "P"))
    ∷ statement (form.Declare Integer (scalar true "X" ∷ scalar true "D" ∷ scalar false "N" ∷ []))
    ∷ statement (form.Create (named false "ADD") (occurrence (named true "X") ∷ occurrence (named true "D") ∷ []))
    ∷ ending ∷ []

-- SUBROUTINE ADD($A,$B)
adder : List Statement
adder =
    statement (form.Subroutine (named false "ADD") (named true "A" ∷ named true "B" ∷ []))
    ∷ statement (form.Declare Integer (scalar true "A" ∷ scalar true "B" ∷ []))
    ∷ ending ∷ []

-- COMMON /B/ K and COMMON L in a main program without a header
short : List Statement
short =
    statement (form.Common (record { block = Some (named false "B"); entries = scalar false "K" ∷ [] } ∷ []))
    ∷ statement (form.Common (record { block = None; entries = scalar false "L" ∷ [] } ∷ []))
    ∷ ending ∷ []

-- COMMON /B/ I(12),J in a subroutine
long : List Statement
long =
    statement (form.Subroutine (named false "S") [])
    ∷ statement (form.Common (record { block = Some (named false "B"); entries = array "I" 12 ∷ scalar false "J" ∷ [] } ∷ []))
    ∷ ending ∷ []

-- ---- their lines

units : listing (producer ∷ adder ∷ []) ≡ codes "UNIT P CELLS 4\nUNIT ADD CELLS 5\n"
unfolding digits producer adder
units = refl

blocks : listing (short ∷ long ∷ []) ≡ codes "UNIT MAIN CELLS 1\nUNIT S CELLS 1\nBLOCK /B/ CELLS 13\nBLOCK // CELLS 1\n"
unfolding digits short long
blocks = refl

nothing : listing [] ≡ []
nothing = refl
