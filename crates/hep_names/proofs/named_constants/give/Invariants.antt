use Rattle.std.proofs.Common.{◌≡◌, drop}
use Rattle.hep_machine.specs.Words.{value_among, given_by}
use Rattle.hep_names.proofs.named_constants.give.Given as goal

abbrev pub invariant-loop-constant : goal.invariant-loop-constant
invariant-loop-constant l =
    value_among (given_by l.table l.constants (drop l.constant-index l.given)) ≡ value_among (given_by l.table l.initial.constants l.given)
