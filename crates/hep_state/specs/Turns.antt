-- The machine after turns of a process: docs/MACHINE.md, "Steps" and "The opening and runs".
use Rattle.std.specs.Prelude.{◌≡◌, ◌≢◌, ◌⊎◌, ℕ, Bool, true, false, List, [], ◌∷◌, ◌++◌, length, Some, None}
use Rattle.hep_machine.specs.Words.{Units, Layout, is_held, layout_of, living, run, Wanted, step, wanted_by}
use Rattle.hep_layout.specs.Words.{address}
use Rattle.hep_state.specs.KeptStates.{Shows}
use Rattle.hep_state.specs.Snapshots.{Snapshot}

-- the machine of a core after these turns, each frame of which had a gap
pub record IsAfter (program : Units) (cells : ℕ) (choices : List ℕ) (m : Snapshot) : Type 0 where
  pub layout : Layout
  pub laid : layout_of program cells is_held choices ≡ Some layout
  pub size : length m.arena.contents ≡ cells
  pub shows : Shows program (run program choices) layout m

-- ---- the results of a turn of process p

-- a step was made
pub record HasStepped (program : Units) (cells : ℕ) (choices : List ℕ) (p : ℕ) (new : Snapshot) : Type 0 where
  pub stepped : step program p (run program choices) ≢ None
  pub after : IsAfter program cells (choices ++ p ∷ []) new

-- p waits for the storage unit that is kept in a cell, to be full or to be empty
pub record HasWaited (program : Units) (cells : ℕ) (choices : List ℕ) (p cell : ℕ) (full : Bool) (new : Snapshot) : Type 0 where
  pub running : (run program choices).halted ≡ false
  pub wanted : Wanted
  pub waits : wanted_by program p (run program choices) ≡ Some wanted
  pub after : IsAfter program cells choices new
  pub found : address program (run program choices) after.layout wanted.at ≡ Some cell
  pub state : wanted.full ≡ full

-- p doesn't live, or all processes were stopped
pub record IsAbsent (program : Units) (cells : ℕ) (choices : List ℕ) (p : ℕ) (new : Snapshot) : Type 0 where
  pub none : ((run program choices).halted ≡ true) ⊎ (living (run program choices) p ≡ None)
  pub after : IsAfter program cells choices new

-- ---- a frame without a gap

-- the step of process p makes an activation for whose frame there is no gap
pub record HasNoGap (program : Units) (cells : ℕ) (choices : List ℕ) (p : ℕ) : Type 0 where
  pub stepped : step program p (run program choices) ≢ None
  pub full : layout_of program cells is_held (choices ++ p ∷ []) ≡ None

-- each frame has its gap, also that of an activation that the next step of process p makes
abbrev pub HasGaps : Units → ℕ → List ℕ → ℕ → Type 0
HasGaps program cells choices p = layout_of program cells is_held (choices ++ p ∷ []) ≢ None
