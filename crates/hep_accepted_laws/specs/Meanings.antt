-- The meaning of a name: X3.9-1978, 18.1 and 18.2.
use Rattle.std.specs.Prelude.{◌≡◌, ℕ, suc, Bool, if◌then◌else◌, List, [], ◌∷◌, Option, Some, None}
use Rattle.hep_machine.specs.Words.{Name, Form, Statement, is_common, is_constant_name, is_dummy, is_local}
use Rattle.hep_source.specs.declared.statement.Form.TheVariants as form

abbrev pub how_many : List Bool → ℕ
how_many [] = 0
how_many (b ∷ bs) = if b then suc (how_many bs) else how_many bs

-- a name is just one of these: a constant, a dummy argument, in COMMON, or a variable that an activation owns
abbrev pub IsOneThing : List Statement → Name → Type 0
IsOneThing unit x = how_many (is_constant_name unit x ∷ is_dummy unit x ∷ is_common unit x ∷ is_local unit x ∷ []) ≡ 1

abbrev pub name_in_header : Form → Option Name
name_in_header (form.Program p) = Some p.name
name_in_header (form.Subroutine p dummies) = Some p.name
name_in_header (form.Function t p dummies) = Some p.name
name_in_header _ = None

-- the name that a PROGRAM, FUNCTION or SUBROUTINE statement gives a unit: 14.1, 15.5.1 and 15.6.1
abbrev pub name_of_unit : List Statement → Option Name
name_of_unit [] = None
name_of_unit (s ∷ ss) = name_in_header s.form
