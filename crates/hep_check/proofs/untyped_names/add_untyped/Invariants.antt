use Rattle.std.proofs.Common.{◌≡◌, ◌++◌, drop}
use Rattle.hep_conditions.specs.Words.{function_types}
use Rattle.hep_check.specs.AllViolations.{told_after, untyped_told}
use Rattle.hep_check.proofs.untyped_names.add_untyped.Given as goal

abbrev pub invariant-loop-occurrence : goal.invariant-loop-occurrence
invariant-loop-occurrence l =
    record {
      found : l.found.items ++ untyped_told (function_types l.unit.program.now) l.unit.symbols.now l.line l.told (drop l.occurrence-index l.occurrences)
          ≡ l.initial.found.items ++ untyped_told (function_types l.unit.program.now) l.unit.symbols.now l.line l.initial.told l.occurrences;
      told : told_after (function_types l.unit.program.now) l.unit.symbols.now l.told (drop l.occurrence-index l.occurrences)
          ≡ told_after (function_types l.unit.program.now) l.unit.symbols.now l.initial.told l.occurrences;
    }
