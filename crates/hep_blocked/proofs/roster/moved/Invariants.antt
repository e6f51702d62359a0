use Rattle.std.proofs.Common.{◌≡◌, ◌<◌, ◌≤◌, ◌&&◌, ℕ, suc, None, length, nat_lt, if◌then◌else◌}
use Rattle.hep_machine.specs.Words.{is_number_among}
use Rattle.hep_blocked.specs.Numbers.{AreRising}
use Rattle.hep_blocked.specs.Rosters.{number_at, place_of, want_of}
use Rattle.hep_blocked.specs.Waiting.{waiting_at}
use Rattle.hep_blocked.proofs.roster.moved.Given as goal

-- those at the first places are kept, and the numbers at the others are greater
abbrev pub invariant-loop-at : goal.invariant-loop-at
invariant-loop-at l =
    ((q : ℕ) → is_number_among q l.roster.ready ≡ (nat_lt (place_of l.numbers q) (suc l.at) && is_number_among (place_of l.numbers q) l.ready.ready))
    × ((q : ℕ) → want_of l.roster.waiting q ≡ (if nat_lt (place_of l.numbers q) (suc l.at) then waiting_at l.waits (place_of l.numbers q) else None))
    × ((k : ℕ) → l.at < k → k ≤ length l.numbers → l.roster.last < number_at l.numbers k)
    × ((greatest : ℕ) → AreRising 1 greatest l.numbers → l.roster.last ≤ greatest)
