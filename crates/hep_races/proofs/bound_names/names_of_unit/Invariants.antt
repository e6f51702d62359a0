use Rattle.std.proofs.Common.{◌≡◌, ◌++◌, drop}
use Rattle.std.specs.List.{flat_map}
use Rattle.hep_machine.specs.Words.{Occurrence}
use Rattle.hep_races.specs.NamesInBounds.{bound_named}
use Rattle.hep_races.proofs.bound_names.names_of_unit.Given as goal

abbrev pub invariant-loop-occurrence : goal.invariant-loop-occurrence
invariant-loop-occurrence l =
    l.names.items ++ flat_map (λ (o : Occurrence). bound_named l.fn.image l.fn.symbols o.name) (drop l.occurrence-index l.occurrence-items)
    ≡ flat_map (λ (o : Occurrence). bound_named l.fn.image l.fn.symbols o.name) l.occurrence-items
