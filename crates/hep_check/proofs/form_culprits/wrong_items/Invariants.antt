use Rattle.std.proofs.Common.{◌≡◌, drop}
use Rattle.hep_conditions.specs.Words.{function_types}
use Rattle.hep_check.specs.FormCulprits as words
use Rattle.hep_check.specs.ExpressionCulprits.{either}
use Rattle.hep_check.proofs.form_culprits.wrong_items.Given as goal

abbrev pub invariant-loop-item : goal.invariant-loop-item
invariant-loop-item l =
    either l.found (words.wrong_items (function_types l.program) l.symbols (drop l.item-index l.items)) ≡ words.wrong_items (function_types l.program) l.symbols l.items
