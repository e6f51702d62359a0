-- Cycles of waiting processes, each of which waits for what the next one changed last: docs/RUNS.md, "Why processes
-- wait".
use Rattle.std.specs.Prelude.{ℕ, zero, suc, nat_eq, nat_lt, if◌then◌else◌, List, [], ◌∷◌, ◌++◌, length, map, Option, Some, None, option_to_list, slice_get}
use Rattle.std.specs.Option.{option_flatten, option_map, option_map_or}
use Rattle.hep_why.specs.declared.reason.Change.{Change}
use Rattle.hep_why.specs.declared.reason.Reason.{Reason}

-- ---- the next one of each, by indexes

-- the index of the first reason of process p, counted from i
abbrev pub index_from : ℕ → ℕ → List Reason → Option ℕ
index_from i p [] = None
index_from i p (r ∷ rs) = if nat_eq r.listed.process p then Some i else index_from (suc i) p rs

abbrev pub index_of : List Reason → ℕ → Option ℕ
index_of reasons p = index_from 0 p reasons

-- the index of the process that changed last what this one waits for, if it waits itself
abbrev pub next_of_change : List Reason → Option Change → Option ℕ
next_of_change reasons None = None
next_of_change reasons (Some c) = index_of reasons c.place.process

abbrev pub next_of : List Reason → Reason → Option ℕ
next_of reasons r = next_of_change reasons r.latest

-- the same for each of them
abbrev pub nexts_of : List Reason → List (Option ℕ)
nexts_of reasons = map (next_of reasons) reasons

abbrev pub next_at : List (Option ℕ) → ℕ → Option ℕ
next_at nexts i = option_flatten (slice_get nexts i)

-- ---- cycles

-- this index and the rest of the cycle, by the next index: that is the first one, which ends the cycle, or a later
-- one, from which it goes on
abbrev pub circle_by : ℕ → ℕ → (ℕ → Option (List ℕ)) → Option ℕ → Option (List ℕ)
circle_by first i more None = None
circle_by first i more (Some j) =
    if nat_eq j first then Some (i ∷ []) else (if nat_lt first j then option_map (λ (js : List ℕ). i ∷ js) (more j) else None)

-- from one index to the next, a number of steps at most, back to the first one, which is the least
unfoldable pub circle_from : List (Option ℕ) → ℕ → ℕ → ℕ → Option (List ℕ)
circle_from nexts first zero i = None
circle_from nexts first (suc n) i = circle_by first i (circle_from nexts first n) (next_at nexts i)

-- the cycle of which an index is the least, if it is in one
abbrev pub circle_at : List (Option ℕ) → ℕ → Option (List ℕ)
circle_at nexts i = circle_from nexts i (length nexts) i

-- the cycles of n indexes from this one on
abbrev pub circles_from : List (Option ℕ) → ℕ → ℕ → List (List ℕ)
circles_from nexts i zero = []
circles_from nexts i (suc n) = option_to_list (circle_at nexts i) ++ circles_from nexts (suc i) n

abbrev pub circles_of : List (Option ℕ) → List (List ℕ)
circles_of nexts = circles_from nexts 0 (length nexts)

-- the process at an index
abbrev pub process_at : List Reason → ℕ → ℕ
process_at reasons i = option_map_or (λ (r : Reason). r.listed.process) (slice_get reasons i) 0

-- all cycles, by processes
abbrev pub circles_among : List Reason → List (List ℕ)
circles_among reasons = map (map (process_at reasons)) (circles_of (nexts_of reasons))
