-- How often the statements of lines began so far, and with one turn more: docs/RUNS.md, "How often lines began".
use Rattle.std.specs.Prelude.{ℕ, ◌+◌, ◌-◌, min, List, Option, Some, None, slice_get}
use Rattle.std.specs.Option.{option_flatten, unwrap_or}
use Rattle.hep_machine.specs.Words.{Units, State}
use Rattle.hep_cover.specs.StatementStarts.{begun, with_line}

-- one more, up to the greatest number of 64 bits
abbrev pub one_more : ℕ → ℕ
one_more n = min (n + 1) 18446744073709551615

-- the count so far at an index
abbrev pub count_before : List (Option ℕ) → ℕ → ℕ
count_before counts i = unwrap_or (option_flatten (slice_get counts i)) 0

-- the statement of a line began, if one did
abbrev pub counted : Option ℕ → List (Option ℕ) → List (Option ℕ)
counted None counts = counts
counted (Some line) counts = with_line counts line (Some (one_more (count_before counts (line - 1))))

-- with the step of process p from a state, by the number of operations of each line's statement
abbrev pub counted_after : Units → List ℕ → ℕ → ℕ → State → List (Option ℕ) → List (Option ℕ)
counted_after program operations entry p s counts = counted (begun program operations p s) counts

-- the same, beside those numbers
abbrev pub counts_after : Units → ℕ → ℕ → State → (List ℕ × List (Option ℕ)) → (List ℕ × List (Option ℕ))
counts_after program entry p s known = (known.0, counted_after program known.0 entry p s known.1)
