use Rattle.std.proofs.Common.{◌≡◌, drop, map}
use Rattle.std.specs.List.{list_all}
use Rattle.hep_conditions.specs.Words.{is_reference_counted}
use Rattle.hep_names.specs.Lists.{listed}
use Rattle.hep_names.proofs.counts.are_references_counted.Given as goal

abbrev pub invariant-loop-name : goal.invariant-loop-name
invariant-loop-name l = list_all (is_reference_counted l.program l.symbols) (map listed (drop l.name-index l.names)) ≡ list_all (is_reference_counted l.program l.symbols) (map listed l.names)
