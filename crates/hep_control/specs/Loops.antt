-- The innermost DO that ends at a statement (X3.9-1978, 11.10).
use Rattle.std.specs.Prelude.{ℕ, nat_lt, if◌then◌else◌, List, [], Option, Some, None, slice_get, slice_set, take}
use Rattle.std.specs.Option.{option_map, unwrap_or}
use Rattle.hep_machine.specs.Words.{Statement, loops_among, loops_ending_at, loops_around, terminal_of, terminal_by_form, index_of_label}

-- the innermost DO that ends at index k
abbrev pub innermost_loop : List Statement → ℕ → Option ℕ
innermost_loop unit k = slice_get (loops_ending_at unit k) 0

-- the DO around the one at index d that ends at the same statement
abbrev pub outer_loop : List Statement → ℕ → Option ℕ
outer_loop unit d = slice_get (loops_around d (loops_ending_at unit (terminal_of unit d))) 0

-- the index of the terminal statement of a DO that isn't within a logical IF
abbrev pub terminal_at : List Statement → Statement → Option ℕ
terminal_at unit s = option_map (index_of_label unit) (terminal_by_form s.conditions s.form)

-- the innermost DO that ends at each statement, with one more DO
abbrev pub with_loop : List (Option ℕ) → ℕ → Option ℕ → List (Option ℕ)
with_loop loops d None = loops
with_loop loops d (Some t) = if nat_lt d t then slice_set loops t (Some d) else loops

abbrev pub loop_met : List (Option ℕ) → ℕ → Option ℕ → Option ℕ
loop_met loops d None = None
loop_met loops d (Some t) = if nat_lt d t then unwrap_or (slice_get loops t) None else None

-- the innermost DO that ends at index k among the first m statements
abbrev pub innermost_among : List Statement → ℕ → ℕ → Option ℕ
innermost_among unit m k = slice_get (loops_among unit k 0 (take m (take k unit)) []) 0
