-- The wait queues, and the numbers of all waiting processes, agree with what each process waits for.
use Rattle.std.specs.Prelude.{◌≡◌, ℕ, ◌-◌, ◌≤◌, false, List, [], ◌∷◌, length, slice_set, Option, None, is_some}
use Rattle.hep_machine.specs.Words.{is_number_among, without}
use Rattle.hep_blocked.specs.Numbers.{Numbers}
use Rattle.hep_cells.specs.declared.want.Want.{Want}
use Rattle.hep_blocked.specs.Waiting.{waiting_at, waits_for}

-- each number is there once
abbrev pub AreApart : List ℕ → Type 0
AreApart [] = Unit {0}
AreApart (p ∷ ps) = (is_number_among p ps ≡ false) × AreApart ps

-- a process is in the queue of a want, once, just where it waits for it
pub record IsTied (waiting : List (Option Want)) (lists : Want → List ℕ) : Type 0 where
  pub tied : (want : Want) (p : ℕ) → is_number_among p (lists want) ≡ waits_for want waiting p
  pub once : (want : Want) → AreApart (lists want)

-- a number is among these just where its process waits, and there is room for each process of the list
pub record AreNumbers (waiting : List (Option Want)) (numbers : Numbers) : Type 0 where
  pub among : (p : ℕ) → is_number_among p numbers.ready ≡ is_some (waiting_at waiting p)
  pub places : length waiting ≤ numbers.room

-- these processes wait for nothing any more
abbrev pub cleared : List ℕ → List (Option Want) → List (Option Want)
cleared [] waiting = waiting
cleared (p ∷ ps) waiting = cleared ps (slice_set waiting (p - 1) None)

-- the numbers without these
abbrev pub without_numbers : List ℕ → List ℕ → List ℕ
without_numbers [] numbers = numbers
without_numbers (p ∷ ps) numbers = without_numbers ps (without p numbers)
