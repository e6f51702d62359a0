use Rattle.std.proofs.Common.{◌≡◌, ◌++◌, drop, map}
use Rattle.std.specs.List.{flat_map}
use Rattle.hep_formats.specs.Lanes as words
use Rattle.hep_formats.proofs.lanes.append_waits.Given as goal

abbrev pub invariant-loop-lane : goal.invariant-loop-lane
invariant-loop-lane l =
    l.text.items ++ flat_map (words.wait_row (map (λ line. line.now) l.lines)) (drop l.lane-index l.lanes)
    ≡ l.fn.text.items ++ flat_map (words.wait_row (map (λ line. line.now) l.lines)) l.lanes
