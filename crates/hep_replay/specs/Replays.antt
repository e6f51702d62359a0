-- Histories that are made again: docs/MACHINE.md, "Histories and choices as texts".
use Rattle.std.specs.Prelude.{◌≡◌, ℕ, zero, suc, ◌+◌, ◌^◌, ◌<◌, ◌≤◌, true, false, List, [], ◌∷◌, ◌++◌, length, replicate, take, slice_get, Some, None, IsSome}
use Rattle.std.specs.List.{flat_map}
use Rattle.hep_machine.specs.declared.event.Entry.{Entry}
use Rattle.hep_machine.specs.Words.{is_held, layout_of, opening_layout, AreSteps, schedule_of, state_after, State, is_waiting, Units, view_of}
use Rattle.hep_core.specs.declared.core_fault.NewFault.{NewFault}
use Rattle.hep_core.specs.declared.core_fault.NewFault.TheVariants as new
use Rattle.hep_core.specs.CoreValues.{CoreValue, stop_after}
use Rattle.hep_replay.specs.declared.replay_fault.ReplayFault.{ReplayFault}
use Rattle.hep_replay.specs.declared.replay_fault.ReplayFault.TheVariants.{NoMemory, ArenaFull, Refused}

-- ---- entries one step at a time

-- n entries of one step, or the entry without steps
abbrev pub single_steps : ℕ → ℕ → List Entry
single_steps p zero = record { process = p; steps = 0 } ∷ []
single_steps p (suc n) = replicate (suc n) (record { process = p; steps = 1 })

abbrev pub single_entries : List Entry → List Entry
single_entries es = flat_map (λ (e : Entry). single_steps e.process e.steps) es

-- ---- entries that are possible

-- the longest history of a core that makes entries again
abbrev pub most_entries : ℕ
most_entries = 2 ^ 40

-- each step of the entry can be made, or its process waits where it has none
abbrev pub IsThere : Units → State → ℕ → ℕ → Type 0
IsThere program s p zero = (s.halted ≡ false) × (is_waiting program s p ≡ true)
IsThere program s p (suc n) = AreSteps program s (replicate (suc n) p)

-- each frame that these entries make has its gap in an arena of `cells` cells
abbrev pub HaveGaps : Units → ℕ → List Entry → Type 0
HaveGaps program cells entries = IsSome (layout_of program cells is_held (schedule_of entries))

-- after these entries the history has room for the entry, the entry can be made, and each frame has its gap in the
-- arena
abbrev pub IsPossible : Units → ℕ → List Entry → Entry → Type 0
IsPossible program cells before e =
    (length (single_entries before) + length (single_steps e.process e.steps) ≤ most_entries)
    × IsThere program (state_after program before) e.process e.steps
    × HaveGaps program cells (before ++ e ∷ [])

-- each of the first k entries is possible after those before it
abbrev pub ArePossible : Units → ℕ → List Entry → ℕ → Type 0
ArePossible program cells entries k =
    (j : ℕ) (e : Entry) → j < k → slice_get entries j ≡ Some e → IsPossible program cells (take j entries) e

-- the entry with this number, counted from 1, is the first one that isn't possible
pub record IsFirstImpossible (program : Units) (cells : ℕ) (entries : List Entry) (number : ℕ) : Type 0 where
  pub place : ℕ
  pub entry : Entry
  pub counted : number ≡ place + 1
  pub here : slice_get entries place ≡ Some entry
  pub before : ArePossible program cells entries place
  pub impossible : IsPossible program cells (take place entries) entry → ⊥

-- ---- the result of making entries again

-- the core that has made a history of entries of one step and without steps; its only stop is that of a STOP, and no
-- process is out
abbrev pub standing : Units → ℕ → List Entry → CoreValue
standing program cells history =
    record {
      program = program;
      cells = cells;
      limit = most_entries;
      history = history;
      stop = stop_after (state_after program history);
      view = view_of program is_held (state_after program history);
      out = [];
      given = 0;
    }

abbrev pub replayed : Units → ℕ → List Entry → CoreValue
replayed program cells entries = standing program cells (single_entries entries)

abbrev pub of_new : NewFault → ReplayFault
of_new new.NoMemory = NoMemory
of_new new.ArenaFull = ArenaFull

-- why there is no such core; memory is asked for, and entries are made, only where the main program's frame has a gap
abbrev pub IsUnmade : Units → ℕ → List Entry → ReplayFault → Type 0
IsUnmade program cells entries NoMemory = IsSome (opening_layout program cells)
IsUnmade program cells entries ArenaFull = opening_layout program cells ≡ None
IsUnmade program cells entries (Refused number entry) =
    IsSome (opening_layout program cells) × (number ≡ 603) × IsFirstImpossible program cells entries entry
