use Rattle.std.proofs.Common.{◌≡◌, ◌++◌, drop, length}
use Rattle.std.specs.List.{flat_map}
use Rattle.hep_image.specs.Names.{spellings_of}
use Rattle.hep_lower.specs.Numbers.{numbers_from}
use Rattle.hep_lower.proofs.program_names.add_variables.Given as goal

abbrev pub invariant-loop-symbols : goal.invariant-loop-symbols
invariant-loop-symbols l =
    (l.names.items ++ flat_map spellings_of (drop l.symbols-index l.list) ≡ l.initial.names.items ++ flat_map spellings_of l.list)
    × (l.numbers.items ++ numbers_from (length l.names.items) (drop l.symbols-index l.list) ≡ numbers_from (length l.initial.names.items) l.list)
