-- What processes wait for: docs/MACHINE.md, "Steps", and "Which process comes next".
use Rattle.std.specs.Prelude.{ℕ, zero, suc, ◌-◌, ◌&&◌, Bool, false, if◌then◌else◌, nat_lt, List, [], ◌∷◌, ◌++◌, length, replicate, slice_index_or, slice_set, Option, Some, None, is_some}
use Rattle.hep_blocked.specs.Numbers.{with_number}
use Rattle.hep_cells.specs.declared.want.Want.{Want}
use Rattle.hep_blocked.specs.WaitQueues.{want_eq}

-- this is waited for
abbrev pub wants : Want → Option Want → Bool
wants want None = false
wants want (Some w) = want_eq want w

-- what process p waits for, in a list that begins with process 1
abbrev pub waiting_at : List (Option Want) → ℕ → Option Want
waiting_at waiting zero = None
waiting_at waiting (suc k) = slice_index_or waiting k None

-- the process of a number waits for this
abbrev pub waits_for : Want → List (Option Want) → ℕ → Bool
waits_for want waiting p = wants want (waiting_at waiting p)

-- process p waits for this; the list is extended where p has no place in it
abbrev pub with_want : ℕ → Want → List (Option Want) → List (Option Want)
with_want p want waiting = slice_set (waiting ++ replicate (p - length waiting) None) (p - 1) (Some want)

-- process p waits for nothing
abbrev pub without_want : ℕ → List (Option Want) → List (Option Want)
without_want zero waiting = waiting
without_want (suc k) waiting = slice_set waiting k None

-- what a process still waits for, after this was brought about
abbrev pub awake : Want → Option Want → Option Want
awake want waiting = if wants want waiting then None else waiting

-- the numbers of the processes that wait for this, in a list that begins with process n
abbrev pub waiting_from : ℕ → Want → List (Option Want) → List ℕ
waiting_from n want [] = []
waiting_from n want (w ∷ ws) = if wants want w then n ∷ waiting_from (suc n) want ws else waiting_from (suc n) want ws

abbrev pub numbers_waiting : Want → List (Option Want) → List ℕ
numbers_waiting want waiting = waiting_from 1 want waiting

-- the waiting process with the least number above p, in a list that begins with process n
abbrev pub next_from : ℕ → ℕ → List (Option Want) → Option ℕ
next_from n p [] = None
next_from n p (w ∷ ws) = if nat_lt p n && is_some w then Some n else next_from (suc n) p ws

abbrev pub next_waiting : List (Option Want) → ℕ → Option ℕ
next_waiting waiting p = next_from 1 p waiting

-- rising numbers with these inserted
abbrev pub with_numbers : List ℕ → List ℕ → List ℕ
with_numbers [] ready = ready
with_numbers (p ∷ ps) ready = with_numbers ps (with_number p ready)
