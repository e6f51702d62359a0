use Rattle.std.proofs.Common.{◌≡◌, ◌++◌, drop}
use Rattle.std.specs.List.{flat_map}
use Rattle.hep_conditions.specs.Words.{function_types}
use Rattle.hep_types.specs.Ambiguities.{ambiguous_in}
use Rattle.hep_types.proofs.all_ambiguities.add_in_units.Given as goal

abbrev pub invariant-loop-symbols : goal.invariant-loop-symbols
invariant-loop-symbols l =
    l.found.items ++ flat_map (ambiguous_in (function_types l.program)) (drop l.symbols-index l.symbols-items)
    ≡ l.initial.found.items ++ flat_map (ambiguous_in (function_types l.program)) l.symbols-items
