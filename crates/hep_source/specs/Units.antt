-- The units of a program and their statements: X3.9-1978, 2.4 and 3.5.
use Rattle.std.specs.Prelude.{ℕ, suc, ◌+◌, Bool, true, false, codes, List, [], ◌∷◌, map, Option, Some, None, slice_get, drop, if◌then◌else◌}
use Rattle.std.specs.Option.{option_or, unwrap_or}
use Rattle.hep_source.specs.declared.name.Name.{Name}
use Rattle.hep_source.specs.declared.name.Occurrence.{Occurrence}
use Rattle.hep_source.specs.declared.statement.Form.{Form}
use Rattle.hep_source.specs.declared.statement.Form.TheVariants.{Program, Subroutine, Function, Implicit, Declare, Dimension, Common, Parameter, Data}
use Rattle.hep_source.specs.declared.statement.Statement.{Statement}
use Rattle.hep_source.specs.Names.{spelling, same_name, index_where}
use Rattle.hep_source.specs.Defaults.{no_unit, no_statement}

-- a program: the statements of each unit, in the order of the source
abbrev pub Units : Type 0
Units = List (List Statement)

-- the statements of the unit with this index
abbrev pub unit_at : Units → ℕ → List Statement
unit_at program u = unwrap_or (slice_get program u) []

-- ---- headers: 14.1 and 15.6.1

-- the name that is shown for a main program without a PROGRAM statement: docs/MACHINE.md, "Names and units"
abbrev pub main_name : List ℕ
main_name = codes "MAIN"

abbrev pub name_by_header : Form → List ℕ
name_by_header (Program p) = spelling p.name
name_by_header (Subroutine p dummies) = spelling p.name
name_by_header (Function t p dummies) = spelling p.name
name_by_header _ = main_name

-- the name of a unit
abbrev pub unit_name : List Statement → List ℕ
unit_name [] = main_name
unit_name (s ∷ ss) = name_by_header s.form

abbrev pub subroutine_by_header : Form → Option Name
subroutine_by_header (Subroutine p dummies) = Some p.name
subroutine_by_header _ = None

-- the name of a subroutine; none for another unit
abbrev pub subroutine_name : List Statement → Option Name
subroutine_name [] = None
subroutine_name (s ∷ ss) = subroutine_by_header s.form

abbrev pub function_by_header : Form → Option Name
function_by_header (Function t p dummies) = Some p.name
function_by_header _ = None

-- the name of a function, which is also the name of its result; none for another unit
abbrev pub function_name : List Statement → Option Name
function_name [] = None
function_name (s ∷ ss) = function_by_header s.form

-- the name of a subroutine or function; none for a main program
abbrev pub procedure_name : List Statement → Option Name
procedure_name unit = option_or (subroutine_name unit) (function_name unit)

abbrev pub names_of_occurrences : List Occurrence → List Name
names_of_occurrences ps = map (λ (p : Occurrence). p.name) ps

abbrev pub dummies_by_header : Form → List Name
dummies_by_header (Subroutine p dummies) = names_of_occurrences dummies
dummies_by_header (Function t p dummies) = names_of_occurrences dummies
dummies_by_header _ = []

-- the dummy arguments of a unit: 15.6.1
abbrev pub dummies_of : List Statement → List Name
dummies_of [] = []
dummies_of (s ∷ ss) = dummies_by_header s.form

abbrev pub is_named : Option Name → Name → Bool
is_named None x = false
is_named (Some y) x = same_name y x

-- the index of the subroutine with a name
abbrev pub subroutine_called : Units → Name → Option ℕ
subroutine_called program x = index_where (λ unit. is_named (subroutine_name unit) x) program

-- the index of the function with a name
abbrev pub function_called : Units → Name → Option ℕ
function_called program x = index_where (λ unit. is_named (function_name unit) x) program

abbrev pub is_main : Option Name → Bool
is_main None = true
is_main (Some x) = false

abbrev pub main_among : Units → Option ℕ
main_among program = index_where (λ unit. is_main (procedure_name unit)) program

-- the index of the main program
abbrev pub main_unit : Units → ℕ
main_unit program = unwrap_or (main_among program) no_unit

-- ---- statements: 3.5, 7.1 and 7.2

-- executable statements: 7.1
abbrev pub is_executable : Form → Bool
is_executable (Program p) = false
is_executable (Subroutine p dummies) = false
is_executable (Function t p dummies) = false
is_executable (Implicit groups) = false
is_executable (Declare t declarators) = false
is_executable (Dimension declarators) = false
is_executable (Common blocks) = false
is_executable (Parameter constants) = false
is_executable (Data groups) = false
is_executable _ = true

-- the number of statements before the first executable one
abbrev pub passed_over : List Statement → ℕ
passed_over [] = 0
passed_over (s ∷ ss) = if is_executable s.form then 0 else suc (passed_over ss)

-- the index of the first executable statement of a unit, from index k on
abbrev pub executable_from : List Statement → ℕ → ℕ
executable_from unit k = k + passed_over (drop k unit)

-- the statement at index k of a unit
abbrev pub statement_at : List Statement → ℕ → Statement
statement_at unit k = unwrap_or (slice_get unit k) no_statement

abbrev pub line_at : List Statement → ℕ → ℕ
line_at unit k = (statement_at unit k).line
