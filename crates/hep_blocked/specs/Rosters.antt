-- The living processes, by their numbers, each at a place of its own: docs/MACHINE.md, "Which process comes next".
use Rattle.std.specs.Prelude.{◌≡◌, ℕ, zero, suc, ◌+◌, ◌≤◌, ◌||◌, Bool, true, nat_eq, nat_lt, if◌then◌else◌, List, [], ◌∷◌, length, map, slice_index_or, vec_capacity, Option, Some, None, is_some}
use Rattle.hep_machine.specs.Words.{is_number_among}
use Rattle.hep_cells.specs.declared.want.Want.{Want}
use Rattle.hep_blocked.specs.Numbers.{AreRising}
use Rattle.hep_blocked.specs.declared.roster.Roster.TheInside.{Inside}

-- the numbers of the ready processes, which rise; the waiting ones, each with what it waits for; the greatest number
-- that was enrolled; and the greatest one that there is room for
pub record RosterValue : Type 0 where
  pub ready : List ℕ
  pub waiting : List (ℕ × Want)
  pub last : ℕ
  pub room : ℕ

-- what the process of a number waits for
abbrev pub want_of : List (ℕ × Want) → ℕ → Option Want
want_of [] p = None
want_of (w ∷ ws) p = if nat_eq p w.0 then Some w.1 else want_of ws p

-- the process of a number is ready or waits
abbrev pub is_enrolled : RosterValue → ℕ → Bool
is_enrolled roll p = is_number_among p roll.ready || is_some (want_of roll.waiting p)

-- the same processes are ready, and wait for the same; there is room for all numbers that there was room for
pub record KeepsRoll (old new : RosterValue) : Type 0 where
  pub grows : old.room ≤ new.room
  pub ready : (q : ℕ) → is_number_among q new.ready ≡ is_number_among q old.ready
  pub waiting : (q : ℕ) → want_of new.waiting q ≡ want_of old.waiting q
  pub last : new.last ≡ old.last

-- ---- places

-- the number at a place, counted from 1; 0 where there is none
abbrev pub number_at : List ℕ → ℕ → ℕ
number_at numbers zero = 0
number_at numbers (suc k) = slice_index_or numbers k 0

-- the number of rising numbers that aren't above p
abbrev pub places_to : List ℕ → ℕ → ℕ
places_to [] p = 0
places_to (n ∷ ns) p = if nat_lt p n then 0 else suc (places_to ns p)

-- the next place, where a place is given
abbrev pub behind : ℕ → ℕ
behind zero = 0
behind (suc k) = suc (suc k)

-- the place of a number; 0 where it isn't among them
abbrev pub place_of : List ℕ → ℕ → ℕ
place_of [] p = 0
place_of (n ∷ ns) p = if nat_eq p n then 1 else behind (place_of ns p)

-- the waiting processes, by the numbers at their places
abbrev pub waiting_in : List ℕ → List (Option Want) → List (ℕ × Want)
waiting_in [] wants = []
waiting_in (n ∷ ns) [] = []
waiting_in (n ∷ ns) (None ∷ wants) = waiting_in ns wants
waiting_in (n ∷ ns) (Some w ∷ wants) = (n, w) ∷ waiting_in ns wants

abbrev pub roll_of : Inside → RosterValue
roll_of r =
    record {
      ready = map (number_at r.numbers.items) r.ready.ready;
      waiting = waiting_in r.numbers.items r.waits;
      last = r.last;
      room = r.last + r.free;
    }

-- numbers rise; each process that is ready or waits has a place, and there is room for `free` more places
pub record HasPlaces (r : Inside) : Type 0 where
  pub rising : AreRising 1 r.last r.numbers.items
  pub ready : (k : ℕ) → is_number_among k r.ready.ready ≡ true → (1 ≤ k) × (k ≤ length r.numbers.items)
  pub waiting : length r.waits ≤ length r.numbers.items
  pub places : length r.numbers.items + r.free ≤ vec_capacity r.numbers
  pub marks : length r.numbers.items + r.free ≤ r.ready.room
