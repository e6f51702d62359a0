-- Condition 306, on labels (X3.9-1978, 3.4 and 11.1 to 11.10).
use Rattle.std.specs.Prelude.{ℕ, nat_eq, List, ◌++◌, map, is_none, option_to_list}
use Rattle.std.specs.List.{flat_map}
use Rattle.hep_machine.specs.Words.{Statement, index_labelled}
use Rattle.hep_conditions.specs.Statements.{targets_of_jump, terminal_labels}
use Rattle.hep_conditions.specs.Violations.{Violations, at_line, when, repeated_by}

-- the violations of statements that refer to a label which no executable statement of the unit has
abbrev pub unlabelled : List Statement → Violations
unlabelled unit =
    flat_map (λ (s : Statement).
    flat_map (λ l. when (is_none (index_labelled unit l)) (at_line 306 s.line)) (targets_of_jump s.form ++ terminal_labels s.form)) unit

-- the labels of a unit, each with the line of its statement
abbrev pub labels_of : List Statement → List (ℕ × ℕ)
labels_of unit = flat_map (λ (s : Statement). map (λ l. (l, s.line)) (option_to_list s.label)) unit

-- all violations of 306; a repeated label is reported at the later statement
abbrev pub label_violations : List Statement → Violations
label_violations unit = unlabelled unit ++ repeated_by 306 nat_eq (labels_of unit)
