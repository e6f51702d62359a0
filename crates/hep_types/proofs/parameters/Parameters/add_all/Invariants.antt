use Rattle.std.proofs.Common.{◌≡◌, ◌&&◌, drop}
use Rattle.hep_conditions.specs.Words.{with_parameters, are_constants_given}
use Rattle.hep_types.proofs.parameters.Parameters.add_all.Given as goal

abbrev pub invariant-loop-constant : goal.invariant-loop-constant
invariant-loop-constant l =
    record {
      taken : with_parameters l.symbols l.self (drop l.constant-index l.constants) ≡ with_parameters l.symbols l.initial.self l.constants;
      given : (l.are_given && are_constants_given l.symbols l.self (drop l.constant-index l.constants)) ≡ are_constants_given l.symbols l.initial.self l.constants;
    }
