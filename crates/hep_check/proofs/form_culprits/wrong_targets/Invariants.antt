use Rattle.std.proofs.Common.{◌≡◌, drop}
use Rattle.hep_conditions.specs.Words.{function_types}
use Rattle.hep_check.specs.FormCulprits as words
use Rattle.hep_check.specs.ExpressionCulprits.{either}
use Rattle.hep_check.proofs.form_culprits.wrong_targets.Given as goal

abbrev pub invariant-loop-target : goal.invariant-loop-target
invariant-loop-target l =
    either l.found (words.wrong_targets (function_types l.program) l.symbols (drop l.target-index l.targets)) ≡ words.wrong_targets (function_types l.program) l.symbols l.targets
