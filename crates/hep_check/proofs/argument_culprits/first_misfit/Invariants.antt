use Rattle.std.proofs.Common.{◌≡◌, drop, map}
use Rattle.hep_names.specs.Lists.{listed}
use Rattle.hep_types.specs.CallPasses.{is_given}
use Rattle.hep_check.specs.Culprits.{first_unmet}
use Rattle.hep_check.proofs.argument_culprits.first_misfit.Given as goal

abbrev pub invariant-loop-name : goal.invariant-loop-name
invariant-loop-name l =
    first_unmet (is_given l.program l.symbols) (map listed (drop l.name-index l.names))
    ≡ first_unmet (is_given l.program l.symbols) (map listed l.names)
