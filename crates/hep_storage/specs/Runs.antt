-- Run-length encoded lists, and places in them.
use Rattle.std.specs.Prelude.{◌≡◌, ℕ, ◌+◌, ◌-◌, ◌≤◌, Bool, false, not, ◌&&◌, nat_eq, if◌then◌else◌, List, [], ◌∷◌, ◌++◌, take, drop, length}
use Rattle.hep_machine.specs.Words.{same_logical}
use Rattle.hep_conditions.specs.Words.{same_declared}
use Rattle.hep_storage.specs.RunItems.{repeat_before}
use Rattle.hep_storage.specs.declared.runs.RunPlace.{RunPlace}
use Rattle.hep_storage.specs.declared.runs.Position.{Position}
use Rattle.hep_storage.specs.declared.runs.PositionRun.{PositionRun}

-- whether two positions have the same type, and both or neither are asynchronous
abbrev pub alike : Position → Position → Bool
alike p q = same_logical p.asynchronous q.asynchronous && same_declared p.value_type q.value_type

-- the positions of a run-length encoded list
abbrev pub positions_in : List PositionRun → List Position
positions_in [] = []
positions_in (r ∷ rs) = repeat_before r.count r.position (positions_in rs)

-- ---- places

-- The number is at most that of the positions of the first run, or 0 where there is no run.
abbrev pub IsWithin : List PositionRun → ℕ → Type 0
IsWithin [] n = n ≡ 0
IsWithin (r ∷ rs) n = n ≤ r.count

abbrev pub IsPlace : RunPlace → List PositionRun → Type 0
IsPlace p rs = (p.run ≤ length rs) × IsWithin (drop p.run rs) p.before

abbrev pub first_places : List PositionRun → ℕ → List Position
first_places [] n = []
first_places (r ∷ rs) n = repeat_before n r.position []

abbrev pub later_places : List PositionRun → ℕ → List Position
later_places [] n = []
later_places (r ∷ rs) n = repeat_before (r.count - n) r.position (positions_in rs)

-- the positions before a place, and those from it on
abbrev pub front : RunPlace → List PositionRun → List Position
front p rs = positions_in (take p.run rs) ++ first_places (drop p.run rs) p.before

abbrev pub rest : RunPlace → List PositionRun → List Position
rest p rs = later_places (drop p.run rs) p.before

-- the place `step` positions further, in a run of `count` positions
abbrev pub after : RunPlace → ℕ → ℕ → RunPlace
after p step count =
    if nat_eq (p.before + step) count then record { run = p.run + 1; before = 0 } else record { run = p.run; before = p.before + step }

-- whether both lists have a first position and these differ
abbrev pub heads_differ : List Position → List Position → Bool
heads_differ [] qs = false
heads_differ (p ∷ ps) [] = false
heads_differ (p ∷ ps) (q ∷ qs) = not (alike p q)
