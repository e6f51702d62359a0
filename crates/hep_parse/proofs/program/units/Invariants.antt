use Rattle.std.proofs.Common.{◌≡◌, true, [], drop}
use Rattle.hep_parse.specs.ReadingProgram.{is_start, units, program}
use Rattle.hep_parse.proofs.UnitLoops.{with_units}
use Rattle.hep_parse.proofs.program.units.Given as goal

abbrev pub invariant-loop-given : goal.invariant-loop-given
invariant-loop-given l =
    (with_units l.units.items l.unit.items (units l.state l.last_line (drop l.given-index l.statements)) ≡ program l.statements)
    × (is_start l.state.stage ≡ true → l.unit.items ≡ [])
