-- The entry that a step is of: docs/RUNS.md, "Races of a run".
use Rattle.std.specs.Prelude.{ℕ, suc, ◌-◌, nat_lt, if◌then◌else◌, List, [], ◌∷◌}
use Rattle.hep_machine.specs.declared.event.Entry.{Entry}

-- the number of the first of these entries up to which there are more than n steps, where they are counted from this number on; the number
-- after the last one if there is none
abbrev pub entry_from : ℕ → List Entry → ℕ → ℕ
entry_from number [] n = number
entry_from number (e ∷ es) n = if nat_lt n e.steps then number else entry_from (suc number) es (n - e.steps)

-- the number of the entry of step n, which is counted from 0
abbrev pub entry_of : List Entry → ℕ → ℕ
entry_of entries n = entry_from 1 entries n
