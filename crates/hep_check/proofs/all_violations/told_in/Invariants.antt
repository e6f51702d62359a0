use Rattle.std.proofs.Common.{◌≡◌, ◌++◌, drop}
use Rattle.hep_check.specs.AllViolations.{lines_in, told_from, told_in}
use Rattle.hep_check.proofs.all_violations.told_in.Given as goal

abbrev pub invariant-loop-statement : goal.invariant-loop-statement
invariant-loop-statement l =
    l.found.items ++ told_from l.fn.program (lines_in l.fn.program l.fn.symbols) l.fn.symbols l.parameters l.told (drop l.statement-index l.statement-items)
    ≡ told_in l.fn.program l.fn.symbols
