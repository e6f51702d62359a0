use Rattle.std.proofs.Common.{◌≡◌, ◌+◌, ◌-◌, ◌||◌, ℕ}
use Rattle.hep_machine.specs.Words.{is_number_among}
use Rattle.hep_blocked.specs.Rosters.{want_of}
use Rattle.hep_blocked.specs.RosterUpdates.{awake_where, is_woken_where}
use Rattle.hep_step.specs.PurgeEffects.{has_cell}
use Rattle.hep_core.proofs.ready_lists.wake_range.Given as goal

abbrev pub invariant-loop-cell : goal.invariant-loop-cell
invariant-loop-cell l =
    ((q : ℕ) → awake_where (has_cell (record { first = l.range.first + l.cell; cells = l.range.cells - l.cell })) (want_of l.roster.waiting q) ≡ awake_where (has_cell l.range) (want_of l.fn.roster.waiting q))
    × ((q : ℕ) → (is_woken_where (has_cell (record { first = l.range.first + l.cell; cells = l.range.cells - l.cell })) (want_of l.roster.waiting) q || is_number_among q l.roster.ready)
    ≡ (is_woken_where (has_cell l.range) (want_of l.fn.roster.waiting) q || is_number_among q l.fn.roster.ready))
    × (l.roster.last ≡ l.fn.roster.last)
    × (l.roster.room ≡ l.fn.roster.room)
