-- The names that violate 309, by lines: docs/MACHINE.md, "Notes".
use Rattle.std.specs.Prelude.{ℕ, Bool, find, nat_eq, if◌then◌else◌, List, [], ◌∷◌, Option, Some, None}
use Rattle.std.specs.Option.{option_map, option_or, unwrap_or}
use Rattle.hep_source.specs.declared.statement.Form.TheVariants as form
use Rattle.hep_machine.specs.Words.{Form, Name, Occurrence, Statement, Units, name_eq, occurrences_in_statement}
use Rattle.hep_types.specs.declared.all_ambiguities.Ambiguity.{Ambiguity}
use Rattle.hep_types.specs.Ambiguities.{ambiguities}
use Rattle.hep_check.specs.ExpressionCulprits.{Found}

-- the name of an ambiguity, where it is at this line
abbrev pub named_at : ℕ → Ambiguity → Option Name
named_at line a = if nat_eq a.line line then a.name else None

-- the name of the first ambiguity at a line that has a name
abbrev pub name_at : ℕ → List Ambiguity → Option Name
name_at line [] = None
name_at line (a ∷ rest) = option_or (named_at line a) (name_at line rest)

-- the first name recorded for a line, after one more name
abbrev pub noted : Option Name → Bool → Name → Option Name
noted (Some y) is_met x = Some y
noted None is_met x = if is_met then Some x else None

abbrev pub is_named : Name → Occurrence → Bool
is_named x p = name_eq p.name x

-- the unit that a statement calls, creates or begins, if it has this name
abbrev pub unit_named : Name → Form → Found
unit_named x (form.Call p ts) = find (is_named x) (p ∷ [])
unit_named x (form.Create p ts) = find (is_named x) (p ∷ [])
unit_named x (form.Program p) = find (is_named x) (p ∷ [])
unit_named x (form.Subroutine p dummies) = find (is_named x) (p ∷ [])
unit_named x (form.Function t p dummies) = find (is_named x) (p ∷ [])
unit_named x _ = None

-- the occurrence of a name in a statement: as the name of a unit, or else of a variable or constant, or else at position 0
abbrev pub place_of : List Statement → Statement → Name → Occurrence
place_of unit s x =
    unwrap_or (option_or (unit_named x s.form) (find (is_named x) (occurrences_in_statement unit s))) (record { name = x; position = 0 })

-- the name in a statement that denotes two things or is declared twice, if 309 is reported at its line
abbrev pub ambiguous_name : Units → List Statement → Statement → Found
ambiguous_name program unit s = option_map (place_of unit s) (name_at s.line (ambiguities program))
