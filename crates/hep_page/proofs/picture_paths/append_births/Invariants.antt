use Rattle.std.proofs.Common.{◌≡◌, ◌++◌, ◌≤◌, drop}
use Rattle.hep_page.specs.LaneSpots.{fields_of}
use Rattle.hep_page.specs.PicturePaths as words
use Rattle.hep_page.proofs.picture_paths.append_births.Given as goal

abbrev pub invariant-loop-mark : goal.invariant-loop-mark
invariant-loop-mark l =
    record {
      so_far : l.text.items ++ words.births_from (fields_of l.scale) l.lanes l.turn (drop l.mark-index l.marks)
          ≡ l.initial.text.items ++ words.births_from (fields_of l.scale) l.lanes 0 l.marks;
      few : l.turn ≤ l.mark-index;
    }
