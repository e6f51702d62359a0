use Rattle.std.proofs.Common.{◌≡◌, ◌++◌, drop, map}
use Rattle.hep_formats.specs.Lanes as words
use Rattle.hep_formats.proofs.lane.lanes_after.Given as goal

abbrev pub invariant-loop-lane : goal.invariant-loop-lane
invariant-loop-lane l =
    let after = words.lane_after (words.turn_shown l.turn) in
    l.after.items ++ map after (drop l.lane-index l.lanes) ≡ map after l.lanes
