use Rattle.std.proofs.Common.{◌≡◌, ◌++◌, drop, take}
use Rattle.hep_outcome.specs.Tallies.{counted}
use Rattle.hep_outcome.proofs.tally.count.Given as goal

abbrev pub invariant-loop-place : goal.invariant-loop-place
invariant-loop-place l =
    (l.tallies.items ≡ l.fn.tallies.items)
    × (take l.place l.tallies.items ++ counted l.fn.one (drop l.place l.tallies.items) ≡ counted l.fn.one l.tallies.items)
