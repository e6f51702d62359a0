use Rattle.std.proofs.Common.{◌≡◌, drop}
use Rattle.hep_races.specs.RaceLines.{label_on}
use Rattle.hep_races.proofs.race_lines.label_on.Given as goal

abbrev pub invariant-loop-statement : goal.invariant-loop-statement
invariant-loop-statement l = label_on l.line (drop l.statement-index l.unit) ≡ label_on l.line l.unit
