-- The progress of a history that is made again: docs/ARCHITECTURE.md, "Forms".
use Rattle.std.specs.Prelude.{◌≡◌, ◌≢◌, ◌⊎◌, ℕ, zero, suc, ◌+◌, ◌<◌, ◌≤◌, Bool, true, false, List, [], ◌∷◌, ◌++◌, length, replicate, Result, Ok, Err, None}
use Rattle.hep_machine.specs.declared.event.Entry.{Entry}
use Rattle.hep_machine.specs.Words.{AreSteps, State, step, is_waiting, Units}
use Rattle.hep_core.specs.CoreValues.{CoreValue, state_of}
use Rattle.hep_replay.specs.declared.replay_fault.ReplayFault.{ReplayFault}
use Rattle.hep_replay.specs.declared.replay_fault.ReplayFault.TheVariants.{NoMemory}
use Rattle.hep_replay.specs.Replays.{HaveGaps, IsThere, most_entries, single_steps, standing}

-- the core is the one that its history leads to
abbrev pub IsStanding : CoreValue → Type 0
IsStanding core = core ≡ standing core.program core.cells core.history

-- the core with these entries more
abbrev pub longer : CoreValue → List Entry → CoreValue
longer core more = standing core.program core.cells (core.history ++ more)

-- p can make a step, or p waits
abbrev pub HasTurn : Units → State → ℕ → Bool → Type 0
HasTurn program s p true = (s.halted ≡ false) × (is_waiting program s p ≡ true)
HasTurn program s p false = step program p s ≢ None

abbrev pub turn_entry : ℕ → Bool → Entry
turn_entry p true = record { process = p; steps = 0 }
turn_entry p false = record { process = p; steps = 1 }

-- the result of a turn: it was made; or it can't be, or a frame that it makes has no gap; or memory was refused
abbrev pub TurnMade : CoreValue → ℕ → Bool → Result Bool ReplayFault → CoreValue → Type 0
TurnMade old p waits (Ok true) new =
    (length old.history < most_entries) × HasTurn old.program (state_of old) p waits × (new ≡ longer old (turn_entry p waits ∷ []))
TurnMade old p waits (Ok false) new =
    length old.history < most_entries → HasTurn old.program (state_of old) p waits
    → HaveGaps old.program old.cells (old.history ++ turn_entry p waits ∷ []) → ⊥
TurnMade old p waits (Err fault) new = fault ≡ NoMemory

-- the result of n steps
abbrev pub StepsMade : CoreValue → ℕ → ℕ → Result Bool ReplayFault → CoreValue → Type 0
StepsMade old p n (Ok true) new =
    (length old.history + n ≤ most_entries) × AreSteps old.program (state_of old) (replicate n p)
    × (new ≡ longer old (replicate n (record { process = p; steps = 1 })))
StepsMade old p n (Ok false) new =
    length old.history + n ≤ most_entries → AreSteps old.program (state_of old) (replicate n p)
    → HaveGaps old.program old.cells (old.history ++ replicate n (record { process = p; steps = 1 })) → ⊥
StepsMade old p n (Err fault) new = fault ≡ NoMemory

-- the result of an entry
abbrev pub EntryMade : CoreValue → Entry → Result Bool ReplayFault → CoreValue → Type 0
EntryMade old e (Ok true) new =
    (length old.history + length (single_steps e.process e.steps) ≤ most_entries) × IsThere old.program (state_of old) e.process e.steps
    × (new ≡ longer old (single_steps e.process e.steps))
EntryMade old e (Ok false) new =
    length old.history + length (single_steps e.process e.steps) ≤ most_entries → IsThere old.program (state_of old) e.process e.steps
    → HaveGaps old.program old.cells (old.history ++ single_steps e.process e.steps) → ⊥
EntryMade old e (Err fault) new = fault ≡ NoMemory

-- the result of some steps of p: a number of them were made; or none, since p can't make one, or a frame that it
-- makes has no gap
abbrev pub SomeStepsMade : CoreValue → ℕ → Result ℕ ReplayFault → CoreValue → Type 0
SomeStepsMade old p (Ok zero) new = TurnMade old p false (Ok false) new
SomeStepsMade old p (Ok (suc n)) new = StepsMade old p (suc n) (Ok true) new
SomeStepsMade old p (Err fault) new = fault ≡ NoMemory

-- an entry was made n times, one after another
pub data AreMade (e : Entry) : CoreValue → ℕ → CoreValue → Type 0 where
  begun : (core : CoreValue) → AreMade e core 0 core
  again : (old : CoreValue) (n : ℕ) (core new : CoreValue) → AreMade e old n core → EntryMade core e (Ok true) new → AreMade e old (suc n) new

-- the result of making it up to n times: it was made that often, or not at all
abbrev pub SomeMade : CoreValue → Entry → Result ℕ ReplayFault → CoreValue → Type 0
SomeMade old e (Ok zero) new = EntryMade old e (Ok false) new
SomeMade old e (Ok (suc n)) new = AreMade e old (suc n) new
SomeMade old e (Err fault) new = fault ≡ NoMemory

-- it was made fewer times than it should, each frame had its gap, and then it couldn't be made
pub record IsCutShort (old : CoreValue) (e : Entry) (count made : ℕ) (new : CoreValue) : Type 0 where
  pub core : CoreValue
  pub fewer : made < count
  pub before : AreMade e old made core
  pub gaps : HaveGaps core.program core.cells core.history
  pub refused : EntryMade core e (Ok false) new

-- the result of making it `count` times
abbrev pub RunMade : CoreValue → Entry → ℕ → Result ℕ ReplayFault → CoreValue → Type 0
RunMade old e count (Ok made) new = ((made ≡ count) × AreMade e old made new) ⊎ IsCutShort old e count made new
RunMade old e count (Err fault) new = fault ≡ NoMemory
