use Rattle.std.proofs.Common.{◌≡◌, ◌-◌, ◌<◌, ◌≤◌, ℕ, length, slice_get}
use Rattle.hep_outcome.proofs.run_by_choices.end_of_alike.Given as goal

abbrev pub invariant-loop-end : goal.invariant-loop-end
invariant-loop-end l = record {
  more : l.first < l.end;
  within : l.end ≤ length l.choices;
  alike : (k : ℕ) → l.first ≤ k → k < l.end → slice_get l.choices k ≡ slice_get l.choices l.first;
}

abbrev pub decreases-loop-end : goal.decreases-loop-end
decreases-loop-end l = length l.choices - l.end
