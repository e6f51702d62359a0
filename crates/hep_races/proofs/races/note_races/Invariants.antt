use Rattle.std.proofs.Common.{◌≡◌, map, take}
use Rattle.hep_races.specs.LatestRaces.{rows_with_races}
use Rattle.hep_races.specs.Observed.{row_in}
use Rattle.hep_races.specs.Vectors.{clock_in}
use Rattle.hep_races.proofs.races.note_races.Given as goal

abbrev pub invariant-loop-index : goal.invariant-loop-index
invariant-loop-index l = map row_in l.rows ≡ rows_with_races (clock_in l.clock) l.y (take l.index l.list) (map row_in l.fn.rows)
