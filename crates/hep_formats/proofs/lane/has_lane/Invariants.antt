use Rattle.std.proofs.Common.{◌≡◌, drop}
use Rattle.std.specs.List.{list_any}
use Rattle.hep_formats.specs.Lanes as words
use Rattle.hep_formats.proofs.lane.has_lane.Given as goal

abbrev pub invariant-loop-lane : goal.invariant-loop-lane
invariant-loop-lane l = list_any (words.is_lane_of l.p) (drop l.lane-index l.lanes) ≡ list_any (words.is_lane_of l.p) l.lanes
