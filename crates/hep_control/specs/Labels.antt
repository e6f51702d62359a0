-- One pass over the labels of a unit (X3.9-1978, 3.4).
use Rattle.std.specs.Prelude.{ℕ, Bool, false, ◌||◌, nat_eq, if◌then◌else◌, List, [], ◌∷◌, ◌++◌, Option, Some, None, is_none, option_to_list}
use Rattle.std.specs.List.{list_any}
use Rattle.hep_machine.specs.Words.{Statement, is_executable, index_labelled}
use Rattle.hep_conditions.specs.Words.{targets_of_jump, terminal_labels, line_when}

-- the label of an executable statement
abbrev pub executable_label : Statement → Option ℕ
executable_label s = if is_executable s.form then s.label else None

-- the index of a label after one more statement, which has the label or not; the first statement with the label counts
abbrev pub noted : Option ℕ → Bool → ℕ → Option ℕ
noted (Some k) is_met index = Some k
noted None is_met index = if is_met then Some index else None

-- no executable statement of a unit has a label
abbrev pub is_absent : List Statement → ℕ → Bool
is_absent unit l = is_none (index_labelled unit l)

-- whether a statement refers to a label which no executable statement has
abbrev pub goes_nowhere : List Statement → Statement → Bool
goes_nowhere unit s = list_any (is_absent unit) (targets_of_jump s.form ++ terminal_labels s.form)

abbrev pub line_of : Statement → ℕ
line_of s = s.line

-- whether a label is among those seen so far
abbrev pub is_seen : (ℕ → Bool) → Option ℕ → Bool
is_seen seen None = false
is_seen seen (Some l) = seen l

abbrev pub with_seen : (ℕ → Bool) → Option ℕ → ℕ → Bool
with_seen seen None k = seen k
with_seen seen (Some l) k = nat_eq k l || seen k

-- the lines of statements whose label was seen or an earlier statement has, and of those that refer to a label which no statement has
abbrev pub lines_from : List Statement → (ℕ → Bool) → List Statement → List ℕ
lines_from unit seen [] = []
lines_from unit seen (s ∷ ss) =
    option_to_list (line_when (is_seen seen s.label) s.line)
    ++ (option_to_list (line_when (goes_nowhere unit s) s.line) ++ lines_from unit (with_seen seen s.label) ss)
