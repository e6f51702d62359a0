use Rattle.std.proofs.Common.{◌≡◌, ◌++◌, ◌+◌, ◌*◌, ◌≤◌, drop, map}
use Rattle.std.specs.List.{list_any}
use Rattle.hep_formats.specs.LaneRows as rows
use Rattle.hep_formats.specs.Lanes as words
use Rattle.hep_formats.proofs.lanes.append_cells.Given as goal

abbrev pub invariant-loop-lane : goal.invariant-loop-lane
invariant-loop-lane l =
    let cell = words.cell_of (words.turn_shown l.turn) l.own in
    let last = words.beyond (list_any (words.is_lane_of l.turn.mark.process) l.shown) in
    record {
      so_far : rows.cells_after l.width l.column l.row.items (map cell (drop l.lane-index l.shown) ++ last)
          ≡ rows.cells_after l.width 7 l.fn.row.items (map cell l.shown ++ last);
      within : l.column ≤ 7 + 24 * l.lane-index;
    }
