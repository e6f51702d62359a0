-- The sweep over values and questions: whether a value with a lesser key is in an interval.
use Rattle.std.specs.Prelude.{ℕ, ◌+◌, ◌*◌, Bool, false, ◌&&◌, nat_lt, nat_le, List, [], ◌∷◌, ◌++◌, Option, None, option_to_list}
use Rattle.std.specs.List.{flat_map, list_any}
use Rattle.hep_conditions.specs.Words.{line_when}
use Rattle.hep_control.specs.declared.sweep.Event.{Event}
use Rattle.hep_control.specs.declared.sweep.Event.TheVariants.{Value, Question}

abbrev pub is_within : ℕ → ℕ → ℕ → Bool
is_within low high v = nat_le low v && nat_lt v high

-- whether an event is a value with a lesser key in the interval from `low` to below `high`
abbrev pub comes_before : ℕ → ℕ → ℕ → Event → Bool
comes_before key low high (Value k v) = nat_lt k key && is_within low high v
comes_before key low high (Question k l h line) = false

-- the answer to a question among these events: its line, if there is such a value
abbrev pub line_asked : List Event → Event → Option ℕ
line_asked events (Value k v) = None
line_asked events (Question key low high line) = line_when (list_any (comes_before key low high) events) line

-- all lines in the answers to the questions
abbrev pub lines_asked : List Event → List ℕ
lines_asked events = flat_map (λ e. option_to_list (line_asked events e)) events

-- ---- one pass over events in order

abbrev pub rank : Event → ℕ
rank (Value k v) = 2 * k + 1
rank (Question k low high line) = 2 * k

abbrev pub line_met : List ℕ → Event → Option ℕ
line_met values (Value k v) = None
line_met values (Question k low high line) = line_when (list_any (is_within low high) values) line

abbrev pub with_event : Event → List ℕ → List ℕ
with_event (Value k v) values = v ∷ values
with_event (Question k low high line) values = values

abbrev pub lines_swept : List ℕ → List Event → List ℕ
lines_swept values [] = []
lines_swept values (e ∷ es) = option_to_list (line_met values e) ++ lines_swept (with_event e values) es
