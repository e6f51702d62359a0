use Rattle.std.proofs.Common.{◌≡◌, ◌++◌, ◌≤◌, ◌<◌, drop, length}
use Rattle.hep_page.specs.LaneSpots as words
use Rattle.hep_page.proofs.lane_spot.append_lane.Given as goal

abbrev pub invariant-loop-mark : goal.invariant-loop-mark
invariant-loop-mark l =
    record {
      so_far : l.spots.items ++ words.lane_from l.turns (words.parts (length l.marks) l.turns) l.filled l.spot (drop l.mark-index l.marks)
          ≡ l.fn.spots.items ++ words.lane_spots l.turns (words.parts (length l.marks) l.turns) l.marks l.p;
      lane : l.spot.lane ≡ l.p;
      few : l.spot.column ≤ l.mark-index;
      less : l.filled < l.turns;
      within : l.filled ≤ l.mark-index;
    }
