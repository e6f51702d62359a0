use Rattle.std.proofs.Common.{◌≡◌, length}
use Rattle.hep_replay.proofs.Readings.{IsReadTo}
use Rattle.hep_replay.proofs.lines.read_lines.Given as goal

abbrev pub invariant-loop-rest : goal.invariant-loop-rest
invariant-loop-rest g l = record {
  read : IsReadTo g.T.FromLine.line g.T.FromLine.allows l.text l.rest (g.R.Row.items l.row);
  counted : l.count ≡ length (g.R.Row.items l.row);
}

abbrev pub decreases-loop-rest : goal.decreases-loop-rest
decreases-loop-rest g l = length l.rest
