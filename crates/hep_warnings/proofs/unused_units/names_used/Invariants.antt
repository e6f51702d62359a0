use Rattle.std.proofs.Common.{◌≡◌, ◌++◌, drop}
use Rattle.std.specs.List.{flat_map}
use Rattle.hep_warnings.specs.UnusedUnits.{names_used, names_used_in}
use Rattle.hep_warnings.proofs.unused_units.names_used.Given as goal

abbrev pub invariant-loop-symbols : goal.invariant-loop-symbols
invariant-loop-symbols l = l.used.items ++ flat_map names_used_in (drop l.symbols-index l.symbols-items) ≡ names_used l.program
