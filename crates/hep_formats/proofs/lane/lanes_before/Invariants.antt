use Rattle.std.proofs.Common.{◌≡◌, ◌++◌, drop}
use Rattle.std.specs.List.{flat_map}
use Rattle.hep_formats.specs.Lanes as words
use Rattle.hep_formats.proofs.lane.lanes_before.Given as goal

abbrev pub invariant-loop-p : goal.invariant-loop-p
invariant-loop-p l = l.lanes.items ++ flat_map (words.lane_at l.marks) (drop l.p-index l.p-items) ≡ words.all_lanes l.marks
