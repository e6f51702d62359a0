use Rattle.std.proofs.Common.{◌≡◌, ◌++◌, drop, map}
use Rattle.std.specs.List.{flat_map}
use Rattle.hep_races.specs.Observed.{row_in}
use Rattle.hep_races.specs.RaceLines.{row_text}
use Rattle.hep_races.specs.SeenRaces.{words_seen}
use Rattle.hep_races.proofs.race_lines.append_rows.Given as goal

abbrev pub invariant-loop-row : goal.invariant-loop-row
invariant-loop-row l =
    l.text.items ++ flat_map (row_text (words_seen l.sources)) (map row_in (drop l.row-index l.rows))
    ≡ l.initial.text.items ++ flat_map (row_text (words_seen l.sources)) (map row_in l.rows)
