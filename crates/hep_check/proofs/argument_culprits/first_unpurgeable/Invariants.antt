use Rattle.std.proofs.Common.{◌≡◌, drop}
use Rattle.hep_types.specs.CallPasses.{is_purgeable}
use Rattle.hep_check.specs.Culprits.{first_target_unmet}
use Rattle.hep_check.proofs.argument_culprits.first_unpurgeable.Given as goal

abbrev pub invariant-loop-target : goal.invariant-loop-target
invariant-loop-target l =
    first_target_unmet (is_purgeable l.symbols) (drop l.target-index l.targets) ≡ first_target_unmet (is_purgeable l.symbols) l.targets
