use Rattle.std.proofs.Common.{◌≡◌, drop}
use Rattle.hep_cover.specs.Coverage.{unbegun, unbegun_in}
use Rattle.hep_cover.proofs.unbegun_lines.unbegun.Given as goal

abbrev pub invariant-loop-unit : goal.invariant-loop-unit
invariant-loop-unit l = unbegun_in (drop l.unit-index l.image) l.counts.items ≡ unbegun l.image l.lines
