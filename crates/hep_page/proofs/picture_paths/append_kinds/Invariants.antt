use Rattle.std.proofs.Common.{◌≡◌, ◌++◌, drop}
use Rattle.std.specs.List.{flat_map}
use Rattle.hep_page.specs.LaneSpots.{fields_of}
use Rattle.hep_page.specs.PicturePaths as words
use Rattle.hep_page.proofs.picture_paths.append_kinds.Given as goal

abbrev pub invariant-loop-kind : goal.invariant-loop-kind
invariant-loop-kind l =
    l.text.items ++ flat_map (words.kind_path (fields_of l.scale) l.spots) (drop l.kind-index l.kinds)
    ≡ l.initial.text.items ++ flat_map (words.kind_path (fields_of l.scale) l.spots) l.kinds
