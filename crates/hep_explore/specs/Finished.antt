-- Histories of runs that are over: docs/MACHINE.md, "Endings".
use Rattle.std.specs.Prelude.{◌≡◌, ◌≤◌, ◌⊎◌, true, false, List, [], ◌∷◌}
use Rattle.hep_machine.specs.declared.event.Entry.{Entry}
use Rattle.hep_machine.specs.Words.{State, Units, opening, progress_after, ready_in, run_from, schedule_of_entry, state_after}

-- a STOP was made, or no process is ready
abbrev pub IsFinished : Units → List Entry → Type 0
IsFinished program history = ((state_after program history).halted ≡ true) ⊎ (ready_in (progress_after program history) ≡ [])

-- each entry has one step at most, and none comes after a STOP
abbrev pub IsSerialFrom : Units → State → List Entry → Type 0
IsSerialFrom program s [] = Unit {0}
IsSerialFrom program s (e ∷ es) = (s.halted ≡ false) × (e.steps ≤ 1) × IsSerialFrom program (run_from program s (schedule_of_entry e)) es

abbrev pub IsSerial : Units → List Entry → Type 0
IsSerial program history = IsSerialFrom program (opening program) history
