use Rattle.std.proofs.Common.{◌≡◌, ◌++◌, drop}
use Rattle.std.specs.List.{flat_map}
use Rattle.hep_page.specs.LaneSpots.{fields_of}
use Rattle.hep_page.specs.Pictures as words
use Rattle.hep_page.proofs.picture_frame.append_ticks.Given as goal

abbrev pub invariant-loop-count : goal.invariant-loop-count
invariant-loop-count l =
    l.text.items ++ flat_map (words.tick_text (fields_of l.scale)) (drop l.count-index l.count-items) ≡ l.initial.text.items ++ flat_map (words.tick_text (fields_of l.scale)) l.count-items
