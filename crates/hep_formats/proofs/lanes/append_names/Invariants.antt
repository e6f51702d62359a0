use Rattle.std.proofs.Common.{◌≡◌, ◌++◌, ◌+◌, ◌*◌, ◌≤◌, drop, length, map, nat_le, take}
use Rattle.hep_formats.specs.LaneRows as rows
use Rattle.hep_formats.specs.Lanes as words
use Rattle.hep_formats.proofs.lanes.append_names.Given as goal

abbrev pub invariant-loop-lane : goal.invariant-loop-lane
invariant-loop-lane l =
    let cell = words.head_cell l.frame.width (map (λ line. line.now) l.lines) in
    let last = words.beyond (nat_le (length l.lanes) l.frame.few) in
    record {
      so_far : rows.cells_after l.frame.width l.column l.row.items (map cell (drop l.lane-index (take l.frame.few l.lanes)) ++ last)
          ≡ rows.cells_after l.frame.width 7 l.fn.row.items (map cell (take l.frame.few l.lanes) ++ last);
      within : l.column ≤ 7 + 24 * l.lane-index;
    }
