-- When a step happens before another one: docs/MACHINE.md, "The order of steps".
use Rattle.std.specs.Prelude.{◌≡◌, ◌⊎◌, ◌<◌, ℕ, true, false, List, Some, slice_get}
use Rattle.hep_accesses.specs.Events.{Event, leads_to}

module _ {L S : Type 0} (es : List (Event L S)) where
  -- no step between these two changes the state of the storage unit
  abbrev pub IsUnchangedBetween : ℕ → ℕ → L → Type 0
  IsUnchangedBetween j k at = (m : ℕ) (f : Event L S) → j < m → m < k → slice_get es m ≡ Some f → f.changes at ≡ false

  -- step j synchronizes with step k: it was the last one to change the state that k needs
  pub record Synchronizes (j k : ℕ) (d e : Event L S) : Type 0 where
    pub at : L
    pub needed : e.needs ≡ Some at
    pub changed : d.changes at ≡ true
    pub latest : IsUnchangedBetween j k at

  -- a step and a later one of the same process, or of the process that it makes, or with which it synchronizes
  pub record IsDirectlyBefore (j k : ℕ) : Type 0 where
    pub first : Event L S
    pub second : Event L S
    pub first_is : slice_get es j ≡ Some first
    pub second_is : slice_get es k ≡ Some second
    pub earlier : j < k
    pub why : (leads_to first second.process ≡ true) ⊎ Synchronizes j k first second

  -- the transitive closure
  pub data IsBefore : ℕ → ℕ → Type 0 where
    directly : {j k : ℕ} → IsDirectlyBefore j k → IsBefore j k
    transitively : {i j k : ℕ} → IsBefore i j → IsDirectlyBefore j k → IsBefore i k
