use Rattle.std.proofs.Common.{◌≡◌, ◌||◌, ℕ, drop}
use Rattle.hep_machine.specs.Words.{is_number_among}
use Rattle.hep_blocked.specs.Rosters.{want_of}
use Rattle.hep_blocked.specs.RosterUpdates.{awake_where, is_woken_where}
use Rattle.hep_step.specs.PurgeEffects.{have_cell}
use Rattle.hep_core.proofs.ready_lists.wake_emptied.Given as goal

abbrev pub invariant-loop-range : goal.invariant-loop-range
invariant-loop-range l =
    ((q : ℕ) → awake_where (have_cell (drop l.range-index l.ranges)) (want_of l.roster.waiting q) ≡ awake_where (have_cell l.ranges) (want_of l.fn.roster.waiting q))
    × ((q : ℕ) → (is_woken_where (have_cell (drop l.range-index l.ranges)) (want_of l.roster.waiting) q || is_number_among q l.roster.ready)
    ≡ (is_woken_where (have_cell l.ranges) (want_of l.fn.roster.waiting) q || is_number_among q l.fn.roster.ready))
    × (l.roster.last ≡ l.fn.roster.last)
    × (l.roster.room ≡ l.fn.roster.room)
