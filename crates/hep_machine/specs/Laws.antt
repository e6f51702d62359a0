-- The properties in the laws of the source machine: docs/MACHINE.md, "Laws".
use Rattle.std.specs.Prelude.{◌≡◌, ◌⊎◌, ℕ, ◌+◌, ◌<◌, ◌≤◌, Bool, true, false, List, [], ◌∷◌, ◌++◌, Option, Some, None}
use Rattle.hep_machine.specs.declared.event.Entry.{Entry}
use Rattle.hep_machine.specs.Evaluation.{purging, Next, does, next_of}
use Rattle.hep_machine.specs.Layout.{activations_on, is_held, Layout}
use Rattle.hep_machine.specs.Run.{run_from, schedule_of_entry}
use Rattle.hep_machine.specs.State.{Level, Process, State, Location, Store}
use Rattle.hep_machine.specs.Storage.{same_location}
use Rattle.hep_source.specs.Units.{Units, unit_at}
use Rattle.hep_machine.specs.Processes.{numbered, living, unit_of, parent_of, is_number_among}

-- From a cell on the frames follow one another: none is empty, each ends before the next one begins, and all end within the arena.
abbrev pub StandApart : ℕ → ℕ → Layout → Type 0
StandApart cells from [] = from ≤ cells
StandApart cells from (f ∷ fs) = (from ≤ f.first) × (0 < f.cells) × StandApart cells (f.first + f.cells) fs

-- the state after the turns of all entries, in order
abbrev pub state_replayed : Units → State → List Entry → State
state_replayed program s [] = s
state_replayed program s (e ∷ es) = state_replayed program (run_from program s (schedule_of_entry e)) es

-- The second list is the first, or the first with one more item at its end.
abbrev pub IsSameOrOneMore : {A : Type 0} → List A → List A → Type 0
IsSameOrOneMore {A} xs ys = (ys ≡ xs) ⊎ ((x : A) × (ys ≡ xs ++ x ∷ []))

-- Every storage unit except this one is full in the new store if and only if it is full in the old store.
abbrev pub KeepsStatesBut : Location → Store → Store → Type 0
KeepsStatesBut at old new = (location : Location) → same_location location at ≡ false → (new location).full ≡ (old location).full

-- Each storage unit that is full in the new store is full in the old store.
abbrev pub FillsNone : Store → Store → Type 0
FillsNone old new = (location : Location) → (new location).full ≡ true → (old location).full ≡ true

-- whether the next part of a statement is the action of a PURGE
abbrev pub purges : Next → Bool
purges (does (purging targets)) = true
purges n = false

-- whether the next part of the statement on top of a living process is the action of a PURGE
abbrev pub top_purges : Units → State → Option (Level × Process) → Bool
top_purges program s None = false
top_purges program s (Some top) = purges (next_of (unit_at program (unit_of s top.0.activation)) top.0.work)

-- whether the next step of process p is the action of a PURGE
abbrev pub is_purge : Units → State → ℕ → Bool
is_purge program s p = top_purges program s (living s p)

-- A process has this activation on its stack.
abbrev pub IsOnStack : State → ℕ → Type 0
IsOnStack s a = (p : ℕ) × (stack : Process) × (numbered s.processes p ≡ Some stack) × (is_number_among a (activations_on stack) ≡ true)

-- This activation is the parent of a held activation.
abbrev pub HasHeldChild : State → ℕ → Type 0
HasHeldChild s a = (child : ℕ) × (is_held s child ≡ true) × (parent_of s child ≡ Some a)
