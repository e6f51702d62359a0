-- The steps of a history that filled or emptied a storage unit last: docs/RUNS.md, "Why processes wait".
use Rattle.std.specs.Prelude.{ℕ, Bool, ◌&&◌, not, nat_le, if◌then◌else◌, List, length, Option, None}
use Rattle.std.specs.Option.{option_map}
use Rattle.hep_machine.specs.declared.event.Entry.{Entry}
use Rattle.hep_machine.specs.Words.{Location, State, Units, common, local, opening, same_logical, state_after_turn}
use Rattle.hep_views.specs.declared.whereabouts.Whereabouts.{Whereabouts}
use Rattle.hep_event.specs.CoreStanding.{whereabouts_by}
use Rattle.hep_why.specs.declared.reason.Change.{Change}
use Rattle.hep_why.specs.declared.reason.LatestChanges.{LatestChanges}
unfoldable pub use Rattle.hep_fold.specs.Turns.{seen_along}
pub use Rattle.hep_fold.specs.Turns.{turns_from}

-- ---- one step

-- the activation whose variable a storage unit is, 0 where it is in COMMON
abbrev pub owner_of : Location → ℕ
owner_of (local a x i) = a
owner_of (common b i) = 0

-- it exists, because that activation was made
abbrev pub is_there : State → Location → Bool
is_there s at = nat_le (owner_of at) (length s.activations)

-- it existed, and was filled or emptied from a state to the next one
abbrev pub has_changed : Location → State → State → Bool
has_changed at s t = is_there s at && not (same_logical (s.store at).full (t.store at).full)

-- the step of process p from a state, as a change by an entry
abbrev pub change_by : Units → ℕ → ℕ → State → Option Change
change_by program entry p s = option_map (λ (w : Whereabouts). record { entry = entry; place = w }) (whereabouts_by program p s)

-- the latest two changes, after one more
abbrev pub with_change : Option Change → LatestChanges → LatestChanges
with_change change latest = record { last = change; before = latest.last }

-- the latest two changes after that step, by those before it
abbrev pub latest_after : Units → Location → ℕ → ℕ → State → LatestChanges → LatestChanges
latest_after program at entry p s latest =
    if has_changed at s (state_after_turn program p s) then with_change (change_by program entry p s) latest else latest

-- ---- a history

-- there was none
abbrev pub no_changes : LatestChanges
no_changes = record { last = None; before = None }

-- the latest two changes in a whole history
abbrev pub latest_changes : Units → List Entry → Location → LatestChanges
latest_changes program entries at = seen_along program (latest_after program at) (opening program) (turns_from 1 entries) no_changes
