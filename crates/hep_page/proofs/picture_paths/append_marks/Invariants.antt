use Rattle.std.proofs.Common.{◌≡◌, ◌++◌, drop}
use Rattle.std.specs.List.{flat_map}
use Rattle.hep_page.specs.LaneSpots.{fields_of}
use Rattle.hep_page.specs.PicturePaths as words
use Rattle.hep_page.proofs.picture_paths.append_marks.Given as goal

abbrev pub invariant-loop-spot : goal.invariant-loop-spot
invariant-loop-spot l =
    l.text.items ++ flat_map (words.mark_path (fields_of l.scale) l.kind) (drop l.spot-index l.spots)
    ≡ l.initial.text.items ++ flat_map (words.mark_path (fields_of l.scale) l.kind) l.spots
