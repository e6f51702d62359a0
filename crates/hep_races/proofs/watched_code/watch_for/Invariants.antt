use Rattle.std.proofs.Common.{◌≡◌, ℕ, Bool, Some, drop, length, slice_get}
use Rattle.hep_races.specs.WatchedCode.{is_observed_ahead}
use Rattle.hep_races.proofs.watched_code.watch_for.Given as goal

abbrev pub invariant-loop-index : goal.invariant-loop-index
invariant-loop-index l =
    record {
      count : length l.watched.items ≡ l.index;
      each : (i : ℕ) (b : Bool) → slice_get l.watched.items i ≡ Some b → b ≡ is_observed_ahead (drop i l.code);
    }
