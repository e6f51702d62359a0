use Rattle.std.proofs.Common.{◌≡◌, ◌++◌, drop, map}
use Rattle.std.specs.List.{flat_map}
use Rattle.hep_page.specs.Pictures as words
use Rattle.hep_page.proofs.lane_lines.append_description.Given as goal

abbrev pub invariant-loop-lane : goal.invariant-loop-lane
invariant-loop-lane l =
    l.text.items ++ flat_map words.wait_words (map words.lane_of (drop l.lane-index l.lanes)) ≡ l.initial.text.items ++ flat_map words.wait_words (map words.lane_of l.lanes)
