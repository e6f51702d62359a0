use Rattle.std.proofs.Common.{◌≡◌, drop}
use Rattle.hep_cover.specs.Coverage.{unbegun_in_unit}
use Rattle.hep_cover.proofs.unbegun_lines.note_unit.Given as goal

abbrev pub invariant-loop-statement : goal.invariant-loop-statement
invariant-loop-statement l = unbegun_in_unit (drop l.statement-index l.unit) l.counts.items ≡ unbegun_in_unit l.unit l.initial.counts.items
