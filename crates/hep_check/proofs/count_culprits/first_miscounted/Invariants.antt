use Rattle.std.proofs.Common.{◌≡◌, drop, map}
use Rattle.hep_names.specs.Lists.{listed}
use Rattle.hep_check.specs.Culprits.{first_unmet, is_list_counted}
use Rattle.hep_check.proofs.count_culprits.first_miscounted.Given as goal

abbrev pub invariant-loop-name : goal.invariant-loop-name
invariant-loop-name l =
    first_unmet (is_list_counted l.program l.symbols) (map listed (drop l.name-index l.names))
    ≡ first_unmet (is_list_counted l.program l.symbols) (map listed l.names)
