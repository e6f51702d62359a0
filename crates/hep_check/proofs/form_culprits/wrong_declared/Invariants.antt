use Rattle.std.proofs.Common.{◌≡◌, drop}
use Rattle.hep_conditions.specs.Words.{function_types}
use Rattle.hep_check.specs.FormCulprits as words
use Rattle.hep_check.proofs.form_culprits.wrong_declared.Given as goal

abbrev pub invariant-loop-declarator : goal.invariant-loop-declarator
invariant-loop-declarator l =
    words.wrong_declared (function_types l.program) l.symbols l.value_type (drop l.declarator-index l.declarators)
    ≡ words.wrong_declared (function_types l.program) l.symbols l.value_type l.declarators
