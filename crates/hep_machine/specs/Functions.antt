-- The functions that need no declaration: X3.9-1978, 15.10, and docs/LANGUAGE.md, 8.
use Rattle.std.specs.Prelude.{ℕ, Bool, true, false, if◌then◌else◌, codes, List, [], ◌∷◌, Option, Some, None}
use Rattle.hep_source.specs.declared.function.PureFunction.{PureFunction}
use Rattle.hep_source.specs.declared.function.PureFunction.TheVariants.{AbsoluteValue, Remainder, TransferOfSign, PositiveDifference, Largest, Smallest}
use Rattle.hep_source.specs.declared.function.StateFunction.{StateFunction}
use Rattle.hep_source.specs.declared.function.StateFunction.TheVariants.{IsFull, IsEmpty, ValueOf, SetEmpty, WaitFull}
use Rattle.hep_source.specs.declared.name.Name.{Name}
use Rattle.hep_source.specs.declared.statement.Statement.{Statement}
use Rattle.hep_source.specs.Names.{same_letters, spelling}
use Rattle.hep_machine.specs.Declarations.{is_array}

-- the entry of a word in a table
abbrev pub word_in : {A : Type 0} → List (List ℕ × A) → List ℕ → Option A
word_in [] cs = None
word_in (w ∷ ws) cs = if same_letters w.0 cs then Some w.1 else word_in ws cs

-- ABS, IABS, MOD, SIGN, ISIGN, DIM, IDIM, MAX, MAX0, MIN and MIN0
abbrev pub pure_functions : List (List ℕ × PureFunction)
pure_functions =
    (codes "ABS", AbsoluteValue) ∷ (codes "IABS", AbsoluteValue) ∷ (codes "MOD", Remainder) ∷ (codes "SIGN", TransferOfSign) ∷ (codes "ISIGN", TransferOfSign)
    ∷ (codes "DIM", PositiveDifference) ∷ (codes "IDIM", PositiveDifference) ∷ (codes "MAX", Largest) ∷ (codes "MAX0", Largest) ∷ (codes "MIN", Smallest) ∷ (codes "MIN0", Smallest) ∷ []

abbrev pub state_functions : List (List ℕ × StateFunction)
state_functions = (codes "FULL", IsFull) ∷ (codes "EMPTY", IsEmpty) ∷ (codes "VALUE", ValueOf) ∷ (codes "SETE", SetEmpty) ∷ (codes "WAITF", WaitFull) ∷ []

-- ---- the meaning of a name with a list: an element of an array of the unit, a reference of one of these functions, or else of a FUNCTION
-- of the program, if there is one (5.3, 15.3 and 15.5)

pub data Meaning : Type 0 where
  element : Meaning
  pure : (f : PureFunction) → Meaning
  state : (f : StateFunction) → Meaning
  external : Meaning

abbrev pub by_pure_function : Option PureFunction → Option StateFunction → Meaning
by_pure_function (Some f) o = pure f
by_pure_function None (Some f) = state f
by_pure_function None None = external

abbrev pub function_named : Name → Meaning
function_named x = by_pure_function (word_in pure_functions (spelling x)) (word_in state_functions (spelling x))

abbrev pub is_external : Meaning → Bool
is_external external = true
is_external _ = false

abbrev pub listed_meaning : List Statement → Name → Meaning
listed_meaning unit x = if is_array unit x then element else function_named x
