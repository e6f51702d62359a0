use Rattle.std.proofs.Common.{◌≡◌, ◌++◌, drop}
use Rattle.std.specs.List.{flat_map}
use Rattle.hep_page.specs.LaneSpots.{fields_of}
use Rattle.hep_page.specs.Pictures as words
use Rattle.hep_page.proofs.picture_frame.append_rows.Given as goal

abbrev pub invariant-loop-row : goal.invariant-loop-row
invariant-loop-row l =
    l.text.items ++ flat_map (words.row_text (fields_of l.scale) l.frame) (drop l.row-index l.row-items) ≡ l.initial.text.items ++ flat_map (words.row_text (fields_of l.scale) l.frame) l.row-items
