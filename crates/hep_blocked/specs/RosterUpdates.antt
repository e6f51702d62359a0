-- The processes that are listed as waiting and the ready ones, as a core keeps them: docs/MACHINE.md, "Which process
-- comes next".
use Rattle.std.specs.Prelude.{◌≡◌, ℕ, ◌&&◌, ◌||◌, Bool, true, false, not, nat_eq, nat_lt, if◌then◌else◌, List, [], ◌∷◌, ◌++◌, length, Option, Some, None, is_some}
use Rattle.std.specs.Option.{unwrap_or}
use Rattle.hep_machine.specs.Words.{Units, Layout, is_number_among, living, run, Progress, ready_in, Location, is_waiting}
use Rattle.hep_cells.specs.Changes.{full_after}
use Rattle.hep_cells.specs.declared.want.Want.{Want}
use Rattle.hep_blocked.specs.Waiting.{awake, wants}
use Rattle.hep_layout.specs.Words.{address}
use Rattle.hep_blocked.specs.NeededCells.{NeedsCell}

-- ---- the lists

-- process p waits for a cell to be full, or to be empty
abbrev pub IsBlocked : Units → ℕ → List ℕ → ℕ → Want → Type 0
IsBlocked program cells choices p w = NeedsCell program cells choices p w.cell w.full × (is_waiting program (run program choices) p ≡ true)

-- after these turns: each listed process waits for what is noted of it, and the ready ones are those of the
-- definition
pub record AreListed (program : Units) (cells : ℕ) (choices : List ℕ) (x : Progress) (waiting : ℕ → Option Want) (ready : List ℕ) : Type 0 where
  pub state : x.state ≡ run program choices
  pub listed : (p : ℕ) → is_number_among p x.listed ≡ is_some (waiting p)
  pub blocked : (p : ℕ) (w : Want) → waiting p ≡ Some w → IsBlocked program cells choices p w
  pub are_ready : (p : ℕ) → is_number_among p ready ≡ is_number_among p (ready_in x)

-- ---- process p was found waiting

-- it waits for this, unless it waited before; the others wait as before
abbrev pub WaitsNow : ℕ → Want → (ℕ → Option Want) → (ℕ → Option Want) → Type 0
WaitsNow p w before after = (q : ℕ) → after q ≡ (if nat_eq p q then Some (unwrap_or (before p) w) else before q)

abbrev pub IsReadyNoMore : ℕ → List ℕ → List ℕ → Type 0
IsReadyNoMore p before after = (q : ℕ) → is_number_among q after ≡ (not (nat_eq p q) && is_number_among q before)

-- ---- process p made a step

-- a process waits no more if it waited for what has changed to be as it is now
abbrev pub awake_by : Option Want → Option Want → Option Want
awake_by None waiting = waiting
awake_by (Some w) waiting = awake w waiting

abbrev pub is_woken : Option Want → (ℕ → Option Want) → ℕ → Bool
is_woken None waiting q = false
is_woken (Some w) waiting q = wants w (waiting q)

-- process p isn't ready any more if it has ended, and a process that it made is; `before` and `after` are the numbers
-- of processes made
abbrev pub is_noted : ℕ → Bool → ℕ → ℕ → List ℕ → ℕ → Bool
is_noted p lives before after ready q = (is_number_among q ready && (not (nat_eq p q) || lives)) || (nat_lt before after && nat_eq q after)

-- the step leaves each storage unit as full as it was, except the one in the changed cell, which is as the want has
-- it
abbrev pub HasChanged : Units → List ℕ → ℕ → Layout → Option Want → Type 0
HasChanged program choices p layout changed =
    (at : Location) (c : ℕ) → address program (run program choices) layout at ≡ Some c
    → ((run program (choices ++ p ∷ [])).store at).full ≡ full_after changed c ((run program choices).store at).full

-- the lists of waiting and ready processes are changed according to the step
pub record GoesAlong (program : Units) (choices : List ℕ) (p : ℕ) (changed : Option Want) (waiting waiting_after : ℕ → Option Want) (ready ready_after : List ℕ) : Type 0 where
  pub waits : (q : ℕ) → waiting_after q ≡ awake_by changed (waiting q)
  pub are_ready : (q : ℕ) → is_number_among q ready_after
      ≡ (is_woken changed waiting q || is_noted p (is_some (living (run program (choices ++ p ∷ [])) p)) (length (run program choices).processes) (length (run program (choices ++ p ∷ [])).processes) ready q)

-- ---- process p made a PURGE

-- a process waits no more if it waited for one of these cells to be empty
abbrev pub awake_where : (ℕ → Bool) → Option Want → Option Want
awake_where emptied None = None
awake_where emptied (Some w) = if not w.full && emptied w.cell then None else Some w

-- it waits for one of them to be empty
abbrev pub wants_emptied : (ℕ → Bool) → Option Want → Bool
wants_emptied emptied None = false
wants_emptied emptied (Some w) = not w.full && emptied w.cell

-- process q waits for it
abbrev pub is_woken_where : (ℕ → Bool) → (ℕ → Option Want) → ℕ → Bool
is_woken_where emptied waiting q = wants_emptied emptied (waiting q)

-- the step leaves each storage unit as full as it was whose cell isn't among these, and empties those in these cells
pub record HasEmptied (program : Units) (choices : List ℕ) (p : ℕ) (layout : Layout) (emptied : ℕ → Bool) : Type 0 where
  pub others : (at : Location) (c : ℕ) → address program (run program choices) layout at ≡ Some c → emptied c ≡ false → ((run program (choices ++ p ∷ [])).store at).full ≡ ((run program choices).store at).full
  pub now : (at : Location) (c : ℕ) → address program (run program choices) layout at ≡ Some c → emptied c ≡ true → ((run program (choices ++ p ∷ [])).store at).full ≡ false

-- the lists of waiting and ready processes are changed according to a step that empties these cells
pub record GoesAlongEmptying (program : Units) (choices : List ℕ) (p : ℕ) (emptied : ℕ → Bool) (waiting waiting_after : ℕ → Option Want) (ready ready_after : List ℕ) : Type 0 where
  pub waits : (q : ℕ) → waiting_after q ≡ awake_where emptied (waiting q)
  pub are_ready : (q : ℕ) → is_number_among q ready_after
      ≡ (is_woken_where emptied waiting q || is_noted p (is_some (living (run program (choices ++ p ∷ [])) p)) (length (run program choices).processes) (length (run program (choices ++ p ∷ [])).processes) ready q)
