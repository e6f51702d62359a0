-- The lines of a history: docs/MACHINE.md, "Histories and choices as texts".
use Rattle.std.specs.Prelude.{ℕ, ◌≤◌, List, ◌++◌, codes}
use Rattle.std.specs.Fmt.{decimal}
use Rattle.std.specs.List.{flat_map}
use Rattle.hep_machine.specs.declared.event.Entry.{Entry}
use Rattle.hep_replay.specs.Choices.{IsProcess}

-- the process, a blank and the number of steps
abbrev pub entry_text : Entry → List ℕ
entry_text e = decimal e.process ++ codes " " ++ decimal e.steps ++ codes "\n"

abbrev pub history_text : List Entry → List ℕ
history_text es = flat_map entry_text es

-- an entry that a text may have
abbrev pub IsAllowed : Entry → Type 0
IsAllowed e = IsProcess e.process × (e.steps ≤ 1024)
