-- Legal histories: docs/MACHINE.md, "Histories".
use Rattle.std.specs.Prelude.{◌≡◌, ◌⊎◌, ℕ, ◌^◌, ◌≤◌, true, List, [], ◌∷◌, length, IsSome}
use Rattle.hep_machine.specs.declared.event.Entry.{Entry}
use Rattle.hep_machine.specs.Layout.{is_held, layout_of}
use Rattle.hep_machine.specs.Opening.{opening}
use Rattle.hep_machine.specs.Run.{AreSteps, run_from, schedule_of_entry, schedule_of}
use Rattle.hep_machine.specs.State.{State}
use Rattle.hep_machine.specs.Step.{is_waiting}
use Rattle.hep_source.specs.Units.{Units}

abbrev pub most_steps : ℕ
most_steps = 2 ^ 10

-- An entry is one to 1,024 steps of a process, each of which exists, or no step of a process that waits.
abbrev pub IsEntry : Units → State → Entry → Type 0
IsEntry program s e =
    ((e.steps ≡ 0) × (is_waiting program s e.process ≡ true)) ⊎ ((1 ≤ e.steps) × (e.steps ≤ most_steps) × AreSteps program s (schedule_of_entry e))

abbrev pub AreEntries : Units → State → List Entry → Type 0
AreEntries program s [] = Unit {0}
AreEntries program s (e ∷ es) = IsEntry program s e × AreEntries program (run_from program s (schedule_of_entry e)) es

-- A history is legal for an arena of this many cells and a limit on its entries.
pub record IsLegal (program : Units) (cells limit : ℕ) (history : List Entry) : Type 0 where
  pub within : length history ≤ limit
  -- each frame fits in a gap when its activation begins
  pub room : IsSome (layout_of program cells is_held (schedule_of history))
  pub entries : AreEntries program (opening program) history
