use Rattle.std.proofs.Common.{◌≡◌, ◌++◌, drop, false}
use Rattle.hep_page.specs.LaneSpots.{fields_of}
use Rattle.hep_page.specs.PicturePaths as words
use Rattle.hep_page.proofs.picture_paths.append_lives.Given as goal

abbrev pub invariant-loop-spot : goal.invariant-loop-spot
invariant-loop-spot l =
    l.text.items ++ words.lives_from (fields_of l.scale) l.lives (drop l.spot-index l.spots)
    ≡ l.initial.text.items ++ words.lives_from (fields_of l.scale) false l.spots
