use Rattle.std.proofs.Common.{◌≡◌, drop}
use Rattle.hep_conditions.specs.Words.{function_types}
use Rattle.hep_check.specs.FormCulprits as words
use Rattle.hep_check.specs.ExpressionCulprits.{either}
use Rattle.hep_check.proofs.form_culprits.wrong_conditions.Given as goal

abbrev pub invariant-loop-condition : goal.invariant-loop-condition
invariant-loop-condition l =
    either l.found (words.wrong_conditions (function_types l.program) l.symbols (drop l.condition-index l.conditions)) ≡ words.wrong_conditions (function_types l.program) l.symbols l.conditions
