use Rattle.std.proofs.Common.{◌≡◌, ◌++◌, drop, map}
use Rattle.std.specs.List.{flat_map}
use Rattle.hep_names.specs.Lists.{listed}
use Rattle.hep_warnings.specs.Asynchronous.{names_given}
use Rattle.hep_warnings.proofs.filled_names.add_given.Given as goal

abbrev pub invariant-loop-reference : goal.invariant-loop-reference
invariant-loop-reference l =
    l.names.items ++ flat_map (names_given l.symbols) (map listed (drop l.reference-index l.references))
    ≡ l.initial.names.items ++ flat_map (names_given l.symbols) (map listed l.references)
