use Rattle.std.proofs.Common.{◌≡◌, ◌++◌, drop}
use Rattle.std.specs.List.{flat_map}
use Rattle.hep_check.specs.AllViolations.{told_in}
use Rattle.hep_check.proofs.all_violations.told.Given as goal

abbrev pub invariant-loop-symbols : goal.invariant-loop-symbols
invariant-loop-symbols l =
    l.found.items ++ flat_map (told_in l.program) (drop l.symbols-index l.symbols-items) ≡ flat_map (told_in l.program) l.symbols-items
