-- Tables of names: X3.9-1978, section 8.
use Rattle.std.specs.Prelude.{◌≡◌, ◌<◌, get_or, ℕ, ◌+◌, Bool, true, false, ◌&&◌, ◌||◌, not, is_some, if◌then◌else◌, List, [], ◌∷◌, Option, Some, None}
use Rattle.std.specs.Borrow.{Bor}
use Rattle.std.specs.List.{filter, flat_map}
use Rattle.std.specs.Option.{option_or}
use Rattle.hep_source.specs.declared.statement.Form.TheVariants.{Function}
use Rattle.hep_machine.specs.Words.{Declarator, Name, Occurrence, Form, Subroutine, Statement, same_name, is_among, index_among, Units, dummies_of, is_named, function_name, subroutine_called, function_called, is_external, listed_meaning, ValueType, names_of, locals_of, declared_type, implicit_type, common_block, is_constant_name, Value, constant_value, BlockName, names_declared, block_holding, blocks_in, entries_of_blocks, names_of_constants, is_nonempty, constants_in, declarator_among, declarators_in}

abbrev pub either : Bool → Bool → Bool
either a b = if a then true else b

-- the value to which an optional reference points
abbrev pub seen : {A : Type 0} → Option (Bor A) → Option A
seen None = None
seen (Some r) = Some r.now

-- this value where the test is true, and else none
abbrev pub given : {A : Type 0} → Bool → A → Option A
given b a = if b then Some a else None

-- the value of name x in a table that has a value only for name y
abbrev pub by_name : {A : Type 0} → Name → A → Name → Option A
by_name y value x = if same_name x y then Some value else None

-- the value of name x in a table that has a value only for the names of these declarators
abbrev pub by_declarators : {A : Type 0} → A → List Declarator → Name → Option A
by_declarators value ds x = if is_among x (names_declared ds) then Some value else None

-- the type that the header of a function gives name x, if it is the name of the function and the header has a type
abbrev pub by_header : Option ValueType → Name → Name → Option ValueType
by_header None name x = None
by_header (Some t) name x = if same_name name x then Some t else None

-- those of these declarators that have dimensions
abbrev pub arrays_among : List Declarator → List Declarator
arrays_among ds = filter (λ (d : Declarator). is_nonempty d.dimensions) ds

-- whether none of these names was seen before, and none occurs twice among them
abbrev pub are_new : (Name → Bool) → List Name → Bool
are_new seen [] = true
are_new seen (x ∷ xs) = not (seen x) && are_new (λ y. same_name y x || seen y) xs

-- the names in COMMON, in the order of the text
abbrev pub names_in_common : List Statement → List Name
names_in_common unit = flat_map (λ (s : Statement). names_declared (entries_of_blocks (blocks_in s.form))) unit

-- the first result that one of these statements gives
abbrev pub first_in : {A : Type 0} → (Form → Option A) → List Statement → Option A
first_in says [] = None
first_in says (s ∷ ss) = option_or (says s.form) (first_in says ss)

-- whether one of these statements passes the test
abbrev pub any_in : (Form → Bool) → List Statement → Bool
any_in says [] = false
any_in says (s ∷ ss) = either (says s.form) (any_in says ss)

-- the index of a name among these occurrences, counted from k
abbrev pub index_from : ℕ → Name → List Occurrence → Option ℕ
index_from k x [] = None
index_from k x (p ∷ ps) = if same_name x p.name then Some k else index_from (k + 1) x ps

abbrev pub block_by_form : Name → Form → Option BlockName
block_by_form x f = block_holding x (blocks_in f)

abbrev pub constant_by_form : Name → Form → Bool
constant_by_form x f = is_among x (names_of_constants (constants_in f))

abbrev pub declarator_by_form : Name → Form → Option Declarator
declarator_by_form x f = declarator_among x (declarators_in f)

-- this declarator, where it gives this name dimensions, and else none
abbrev pub by_declarator : Declarator → Name → Option Declarator
by_declarator d x = given (same_name d.occurrence.name x && is_nonempty d.dimensions) d

abbrev pub dummies_by_form : Form → List Occurrence
dummies_by_form (Subroutine p dummies) = dummies
dummies_by_form (Function t p dummies) = dummies
dummies_by_form _ = []

-- the occurrences of the dummy arguments in the header of a unit
abbrev pub dummies_in : List Statement → List Occurrence
dummies_in [] = []
dummies_in (s ∷ ss) = dummies_by_form s.form

-- The tables of a unit have for each name what its specification statements declare.
pub record Describes (unit : List Statement) (types : Name → Option ValueType) (letters : List (Option ValueType)) (arrays : List Statement) (dummies : Name → Option ℕ) (blocks : Name → Option BlockName) (are_once : Bool) (constant_names : Name → Bool) (constants : Name → Option Value) (names locals : List Name) : Type 0 where
  pub typed : (x : Name) → types x ≡ declared_type x unit
  pub lettered : (c : ℕ) → c < 256 → get_or letters c None ≡ implicit_type c unit
  pub bounded : arrays ≡ unit
  pub numbered : (x : Name) → dummies x ≡ index_among x (dummies_of unit)
  pub common : (x : Name) → blocks x ≡ common_block unit x
  pub once : are_once ≡ are_new (λ x. false) (names_in_common unit)
  pub constant : (x : Name) → constant_names x ≡ is_constant_name unit x
  pub valued : constants ≡ constant_value unit
  pub named : names ≡ names_of unit
  pub owned : locals ≡ locals_of unit

-- the index of the first of these units with this name, counted from k
abbrev pub called_from : (List Statement → Option Name) → ℕ → Name → Units → Option ℕ
called_from name_of k x [] = None
called_from name_of k x (u ∷ us) = option_or (given (is_named (name_of u) x) k) (called_from name_of (k + 1) x us)

-- The tables of a program have the indices of the subroutine and the function with each name.
pub record Numbers (program : Units) (subroutines functions : Name → Option ℕ) : Type 0 where
  pub called : (x : Name) → subroutines x ≡ subroutine_called program x
  pub referred : (x : Name) → functions x ≡ function_called program x

-- whether a name with a list may reference a function of the program: it is no array, no function of the language, and not the name of
-- the unit itself
abbrev pub may_refer : List Statement → Name → Bool
may_refer unit x = is_external (listed_meaning unit x) && not (is_named (function_name unit) x)

-- whether a name is in none of the tables of dummy arguments, of COMMON and of constants
abbrev pub is_local_by : (Name → Option ℕ) → (Name → Option BlockName) → (Name → Bool) → Name → Bool
is_local_by dummies blocks constants x = not (is_some (dummies x)) && (not (is_some (blocks x)) && not (constants x))
