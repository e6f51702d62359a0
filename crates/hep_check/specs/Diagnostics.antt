-- The violations of a program that are reported after its first one: docs/MACHINE.md, "Notes".
use Rattle.std.specs.Prelude.{Bool, not, ◌&&◌, nat_eq, if◌then◌else◌, List, [], ◌∷◌}
use Rattle.std.specs.Option.{option_eq}
use Rattle.hep_machine.specs.Words.{Statement, Units, name_eq}
use Rattle.hep_conditions.specs.declared.violation.Violation.{Violation}
use Rattle.hep_conditions.specs.Words.{Violations, argument_violations, count_violations, data_violations, function_types, jump_violations, label_violations, resume_violations, structure_violations, type_missing_violations, type_violations, unknown_name_violations}
use Rattle.hep_check.specs.Culprits.{culprit_of}
use Rattle.hep_check.specs.AllViolations.{told}
use Rattle.hep_check.specs.declared.diagnostics.Diagnostic.{Diagnostic}

-- the violations of each condition that concerns a unit by itself
abbrev pub conditions_on : Units → List Statement → List Violations
conditions_on program unit =
    type_missing_violations (function_types program) unit
    ∷ type_violations (function_types program) unit
    ∷ count_violations program unit
    ∷ argument_violations (function_types program) program unit
    ∷ label_violations unit
    ∷ structure_violations (function_types program) unit
    ∷ jump_violations unit
    ∷ unknown_name_violations program unit
    ∷ data_violations unit
    ∷ resume_violations unit
    ∷ []

-- ---- the violations after the first one

-- whether two violations are the same
abbrev pub is_same : Violation → Violation → Bool
is_same a b = nat_eq a.line b.line && (nat_eq a.number b.number && (option_eq name_eq a.name b.name && nat_eq a.position b.position))

-- these violations without the first one and without immediate repetitions
abbrev pub others : Violation → Violation → List Violation → List Violation
others first last [] = []
others first last (w ∷ ws) = if not (is_same first w) && not (is_same last w) then w ∷ others first w ws else others first last ws

-- all reported violations but the first one, each once
abbrev pub further : Units → Violation → List Violation
further program v = others v v (told program)

-- a violation with the part at fault
abbrev pub as_told : Units → Violation → Diagnostic
as_told program v = record { violation = v; culprit = culprit_of program v }
