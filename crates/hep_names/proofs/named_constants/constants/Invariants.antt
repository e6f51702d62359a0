use Rattle.std.proofs.Common.{◌≡◌, [], drop}
use Rattle.hep_machine.specs.Words.{value_among, given_by, named_constants}
use Rattle.hep_names.proofs.named_constants.constants.Given as goal

abbrev pub invariant-loop-statement : goal.invariant-loop-statement
invariant-loop-statement l =
    value_among (given_by l.table l.constants (named_constants (drop l.statement-index l.statement-items))) ≡ value_among (given_by l.table [] (named_constants l.statement-items))
