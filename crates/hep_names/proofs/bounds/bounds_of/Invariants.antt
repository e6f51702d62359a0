use Rattle.std.proofs.Common.{◌≡◌, drop}
use Rattle.hep_machine.specs.Words.{bounds_of, value_among}
use Rattle.hep_names.proofs.BoundValues.{prefixed}
use Rattle.hep_names.proofs.bounds.bounds_of.Given as goal

abbrev pub invariant-loop-dimension : goal.invariant-loop-dimension
invariant-loop-dimension l = prefixed l.bounds.items (bounds_of l.symbols (value_among l.constants) (drop l.dimension-index l.dimensions)) ≡ bounds_of l.symbols (value_among l.constants) l.dimensions
