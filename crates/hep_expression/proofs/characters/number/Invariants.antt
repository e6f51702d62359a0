use Rattle.std.proofs.Common.{◌≡◌, drop}
use Rattle.hep_expression.specs.Characters.{number_of_digits, number_after}
use Rattle.hep_expression.proofs.characters.number.Given as goal

abbrev pub invariant-loop-c : goal.invariant-loop-c
invariant-loop-c l = number_after l.value (drop l.c-index l.digits) ≡ number_of_digits l.digits
