-- The reported violations of a program: docs/MACHINE.md, "Notes".
use Rattle.std.specs.Prelude.{ℕ, Bool, not, ◌&&◌, nat_eq, if◌then◌else◌, List, [], ◌∷◌, ◌++◌, is_none, is_some}
use Rattle.std.specs.List.{flat_map, list_any}
use Rattle.hep_source.specs.declared.statement.Form.TheVariants as form
use Rattle.hep_machine.specs.Words.{Form, Name, Occurrence, Statement, Units, is_among, occurrences_in_statement, subroutine_called, subroutine_name}
use Rattle.hep_conditions.specs.declared.violation.Violation.{Violation}
use Rattle.hep_conditions.specs.Words.{FunctionTypes, Parameters, Violations, at_line, at_occurrence, common_violations, data_violations, function_types, is_resume, is_statement_typed, jump_violations, label_violations, name_violations, names_with_lists, no_parameters, structure_violations, when, is_untyped}
use Rattle.hep_check.specs.Culprits.{miscounted, misfit}
use Rattle.hep_names.specs.Parts.{unknown_by, unknown_in_form, unknown_listed}
use Rattle.hep_types.specs.Passes.{parameters_after}

-- ---- 301: a name is reported once, where it appears first

abbrev pub is_untyped_at : FunctionTypes → List Statement → Occurrence → Bool
is_untyped_at functions unit p = is_untyped functions unit p.name

abbrev pub with_name : Name → List Name → List Name
with_name x xs = if is_among x xs then xs else x ∷ xs

-- the violation by a name, unless the name was reported before
abbrev pub untold : List Name → ℕ → Occurrence → Violations
untold told line p = when (not (is_among p.name told)) (at_occurrence 301 line p)

abbrev pub untyped_told : FunctionTypes → List Statement → ℕ → List Name → List Occurrence → Violations
untyped_told functions unit line told [] = []
untyped_told functions unit line told (p ∷ ps) =
    if is_untyped_at functions unit p
    then untold told line p ++ untyped_told functions unit line (with_name p.name told) ps
    else untyped_told functions unit line told ps

-- the reported names after these occurrences
abbrev pub told_after : FunctionTypes → List Statement → List Name → List Occurrence → List Name
told_after functions unit told [] = told
told_after functions unit told (p ∷ ps) =
    told_after functions unit (if is_untyped_at functions unit p then with_name p.name told else told) ps

-- ---- 310

abbrev pub unknown_call : Units → ℕ → Form → Violations
unknown_call program line (form.Call p ts) = unknown_by (is_none (subroutine_called program p.name)) line p
unknown_call program line (form.Create p ts) = unknown_by (is_none (subroutine_called program p.name)) line p
unknown_call program line _ = []

-- the violations of 310 by a statement: by its targets, by the called subroutine, and by names with lists
abbrev pub unknown_told : Units → List Statement → Statement → Violations
unknown_told program unit s =
    unknown_in_form unit s.line s.form
    ++ (unknown_call program s.line s.form ++ flat_map (unknown_listed program unit s.line) (names_with_lists s))

-- ---- 305 to 309 and 311, which concern several statements or units, at the lines that the conditions report

-- whether a violation is at this line
abbrev pub has_line : Violations → ℕ → Bool
has_line vs line = list_any (λ (v : Violation). nat_eq v.line line) vs

-- the lines at which these conditions are violated
pub record ViolatedLines : Type 0 where
  pub common : ℕ → Bool
  pub labels : ℕ → Bool
  pub structure : ℕ → Bool
  pub jumps : ℕ → Bool
  pub names : ℕ → Bool
  pub values : ℕ → Bool

-- these lines in a unit of a program; 305 and 309 concern the whole program
abbrev pub lines_in : Units → List Statement → ViolatedLines
lines_in program unit =
    record {
      common = has_line (common_violations program);
      labels = has_line (label_violations unit);
      structure = has_line (structure_violations (function_types program) unit);
      jumps = has_line (jump_violations unit);
      names = has_line (name_violations program);
      values = has_line (data_violations unit);
    }

abbrev pub shared_told : ViolatedLines → ℕ → Violations
shared_told lines line =
    when (lines.common line) (at_line 305 line)
    ++ (when (lines.labels line) (at_line 306 line)
    ++ (when (lines.structure line) (at_line 307 line)
    ++ (when (lines.jumps line) (at_line 308 line)
    ++ when (lines.names line) (at_line 309 line))))

-- ---- all but 301 and 302

-- the violations of a statement other than 301 and 302; 304 is left out where a name has no type, because it counts as real
abbrev pub others_told : Units → ViolatedLines → List Statement → Bool → Statement → Violations
others_told program lines unit is_doubtful s =
    when (is_some (miscounted program unit s)) (at_line 303 s.line)
    ++ (when (is_some (misfit program unit s) && not is_doubtful) (at_line 304 s.line)
    ++ (shared_told lines s.line
    ++ (unknown_told program unit s
    ++ (when (lines.values s.line) (at_line 311 s.line)
    ++ when (is_resume s.form && is_none (subroutine_name unit)) (at_line 312 s.line)))))

-- ---- a statement

abbrev pub is_doubtful : Units → List Statement → Statement → Bool
is_doubtful program unit s = list_any (is_untyped_at (function_types program) unit) (occurrences_in_statement unit s)

-- a statement at this line names something without a type
abbrev pub has_doubtful : Units → List Statement → ℕ → Bool
has_doubtful program unit line = list_any (λ (s : Statement). nat_eq s.line line && is_doubtful program unit s) unit

abbrev pub statement_told : Units → ViolatedLines → List Statement → Parameters → List Name → Statement → Violations
statement_told program lines unit ps told s =
    untyped_told (function_types program) unit s.line told (occurrences_in_statement unit s)
    ++ (when (not (is_statement_typed (function_types program) unit ps s) && not (is_doubtful program unit s)) (at_line 302 s.line)
    ++ others_told program lines unit (is_doubtful program unit s) s)

abbrev pub names_after : Units → List Statement → List Name → Statement → List Name
names_after program unit told s = told_after (function_types program) unit told (occurrences_in_statement unit s)

-- ---- a unit, and a program

abbrev pub told_from : Units → ViolatedLines → List Statement → Parameters → List Name → List Statement → Violations
told_from program lines unit ps told [] = []
told_from program lines unit ps told (s ∷ ss) =
    statement_told program lines unit ps told s
    ++ told_from program lines unit (parameters_after unit ps s) (names_after program unit told s) ss

abbrev pub told_in : Units → List Statement → Violations
told_in program unit = told_from program (lines_in program unit) unit no_parameters [] unit

abbrev pub told : Units → Violations
told program = flat_map (told_in program) program
