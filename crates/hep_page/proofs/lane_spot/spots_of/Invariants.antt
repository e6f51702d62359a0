use Rattle.std.proofs.Common.{◌≡◌, ◌++◌, drop}
use Rattle.hep_page.specs.LaneSpots as words
use Rattle.hep_page.proofs.lane_spot.spots_of.Given as goal

abbrev pub invariant-loop-p : goal.invariant-loop-p
invariant-loop-p l = l.spots.items ++ words.spots_of (words.fields_of l.scale) l.marks (drop l.p-index l.lanes) ≡ words.spots_of (words.fields_of l.scale) l.marks l.lanes
