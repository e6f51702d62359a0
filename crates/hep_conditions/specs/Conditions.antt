-- All conditions of a program: docs/LANGUAGE.md, 10.
use Rattle.std.specs.Prelude.{◌≡◌, Bool, true, false, ◌&&◌, List, [], ◌++◌, Option, is_none}
use Rattle.std.specs.List.{flat_map}
use Rattle.hep_machine.specs.Words.{Form, Statement, subroutine_name, Units}
use Rattle.hep_source.specs.declared.statement.Form.TheVariants as form
use Rattle.hep_conditions.specs.Statements.{function_types}
use Rattle.hep_conditions.specs.declared.violation.Violation.{Violation}
use Rattle.hep_conditions.specs.Common.{common_violations}
use Rattle.hep_conditions.specs.Data.{data_violations}
use Rattle.hep_conditions.specs.Labels.{label_violations}
use Rattle.hep_conditions.specs.Names.{type_missing_violations, name_violations, unknown_name_violations}
use Rattle.hep_conditions.specs.Nesting.{structure_violations, jump_violations}
use Rattle.hep_conditions.specs.Constants.{type_violations}
use Rattle.hep_conditions.specs.Counts.{count_violations}
use Rattle.hep_conditions.specs.Arguments.{argument_violations}
use Rattle.hep_conditions.specs.Violations.{Violations, at_line, first_of, when}

-- ---- 312: RESUME is only allowed in a subroutine (docs/LANGUAGE.md, 9)

abbrev pub is_resume : Form → Bool
is_resume form.Resume = true
is_resume _ = false

abbrev pub resume_violations : List Statement → Violations
resume_violations unit = flat_map (λ (s : Statement). when (is_resume s.form && is_none (subroutine_name unit)) (at_line 312 s.line)) unit

-- ---- all of them

-- the violations of a unit, except those that concern several units
abbrev pub violations_in : Units → List Statement → Violations
violations_in program unit =
    type_missing_violations (function_types program) unit
    ++ (type_violations (function_types program) unit
    ++ (count_violations program unit
    ++ (argument_violations (function_types program) program unit
    ++ (label_violations unit
    ++ (structure_violations (function_types program) unit
    ++ (jump_violations unit
    ++ (unknown_name_violations program unit
    ++ (data_violations unit
    ++ resume_violations unit))))))))

-- the violations of a program
abbrev pub violations : Units → Violations
violations program = flat_map (violations_in program) program ++ (common_violations program ++ name_violations program)

-- A program is accepted if it has no violation.
abbrev pub IsAccepted : Units → Type 0
IsAccepted program = violations program ≡ []

-- the violation that is reported
abbrev pub first_violation : Units → Option Violation
first_violation program = first_of (violations program)
