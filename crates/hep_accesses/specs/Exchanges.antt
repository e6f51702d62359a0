-- When the steps of two processes can be exchanged: docs/MACHINE.md, "The order of steps".
use Rattle.std.specs.Prelude.{◌≡◌, ◌≢◌, ◌⊎◌, ℕ, false, List, length, Some}
use Rattle.std.specs.List.{Contains}
use Rattle.hep_machine.specs.Words.{Level, Next, Process, State, Top, Units, calling, creating, does, living, next_of, referring}
use Rattle.hep_machine.specs.Words.{same_location, stopping, unit_on_top, wants}
use Rattle.hep_accesses.specs.Races.{conflicts}
use Rattle.hep_accesses.specs.Accesses.{Access, uses_on_top}

-- it begins no activation
abbrev pub BeginsNoActivation : Next → Type 0
BeginsNoActivation (wants (referring x actuals)) = ⊥
BeginsNoActivation (does (calling x actuals)) = ⊥
BeginsNoActivation (does (creating x actuals)) = ⊥
BeginsNoActivation _ = Unit {0}

-- it is no STOP
abbrev pub IsNoStop : Next → Type 0
IsNoStop (does stopping) = ⊥
IsNoStop _ = Unit {0}

-- none of these accesses conflicts with one of those
abbrev pub HaveNoConflict : List Access → List Access → Type 0
HaveNoConflict xs ys = (a b : Access) → Contains xs a → Contains ys b → conflicts same_location a b ≡ false

module _ (program : Units) where
  abbrev pub next_on_top : Top → Next
  next_on_top t = next_of (unit_on_top program t) t.level.work

  abbrev pub top_with : State → ℕ → Level × Process → Top
  top_with s p top = record { state = s; process = p; level = top.0; below = top.1 }

  -- process p lives in s, and its next step begins no activation and is no STOP
  pub record IsExchangeable (s : State) (p : ℕ) : Type 0 where
    pub top : Level × Process
    pub lives : living s p ≡ Some top
    pub begins_no_activation : BeginsNoActivation (next_on_top (top_with s p top))
    pub is_no_stop : IsNoStop (next_on_top (top_with s p top))

  abbrev pub top_before : {s : State} {p : ℕ} → IsExchangeable s p → Top
  top_before {s} {p} h = top_with s p h.top

  -- what two processes use in their steps from s has no conflict
  pub record HaveSeparateUses (s : State) (p q : ℕ) : Type 0 where
    pub different : p ≢ q
    pub first : IsExchangeable s p
    pub second : IsExchangeable s q
    pub apart : HaveNoConflict (uses_on_top program (top_before first)) (uses_on_top program (top_before second))

  -- nor do their steps, which lead to t and to u, both print, fault or make a process
  pub record AreIndependent (s : State) (p q : ℕ) (t u : State) : Type 0 where
    pub separate : HaveSeparateUses s p q
    pub faults : (t.faults ≡ s.faults) ⊎ (u.faults ≡ s.faults)
    pub records : (t.records ≡ s.records) ⊎ (u.records ≡ s.records)
    pub processes : (length t.processes ≡ length s.processes) ⊎ (length u.processes ≡ length s.processes)
