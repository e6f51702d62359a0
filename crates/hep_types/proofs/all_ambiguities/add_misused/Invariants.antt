use Rattle.std.proofs.Common.{◌≡◌, ◌++◌, drop}
use Rattle.std.specs.List.{flat_map}
use Rattle.hep_conditions.specs.Words.{function_types}
use Rattle.hep_types.specs.Ambiguities.{two_ways_in}
use Rattle.hep_types.proofs.all_ambiguities.add_misused.Given as goal

abbrev pub invariant-loop-way : goal.invariant-loop-way
invariant-loop-way l =
    l.found.items ++ flat_map (two_ways_in (function_types l.program) l.symbols l.fn.one) (drop l.way-index l.ways)
    ≡ l.initial.found.items ++ flat_map (two_ways_in (function_types l.program) l.symbols l.fn.one) l.ways
