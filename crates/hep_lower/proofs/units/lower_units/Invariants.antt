use Rattle.std.proofs.Common.{◌<◌, ◌≤◌}
use Rattle.hep_code.specs.Words.{most_instructions}
use Rattle.hep_lower.specs.LoweredUnits.{AreRows, AreUnits}
use Rattle.hep_lower.proofs.units.lower_units.Given as goal

abbrev pub invariant-loop-index : goal.invariant-loop-index
invariant-loop-index l =
    record {
      units : AreUnits l.program l.index l.units;
      few : l.units.instructions ≤ most_instructions;
      rows : l.main < l.index → AreRows l.program l.rows.items;
    }
