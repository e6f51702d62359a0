use Rattle.std.proofs.Common.{◌≡◌, ◌++◌, drop}
use Rattle.std.specs.List.{flat_map}
use Rattle.hep_types.specs.Ambiguities.{misnamed_in}
use Rattle.hep_types.proofs.all_ambiguities.add_all_misnamed.Given as goal

abbrev pub invariant-loop-statement : goal.invariant-loop-statement
invariant-loop-statement l =
    l.found.items ++ flat_map misnamed_in (drop l.statement-index l.unit) ≡ l.initial.found.items ++ flat_map misnamed_in l.unit
