use Rattle.std.proofs.Common.{◌≡◌, ◌+◌, drop}
use Rattle.hep_machine.specs.Words.{cells_before}
use Rattle.hep_races.proofs.bound_names.cells_before.Given as goal

abbrev pub invariant-loop-other : goal.invariant-loop-other
invariant-loop-other l =
    l.cells + cells_before l.unit.symbols.now l.name (drop l.other-index l.list) ≡ cells_before l.unit.symbols.now l.name l.list
