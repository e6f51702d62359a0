use Rattle.std.proofs.Common.{◌++◌, ◌∙◌, ap, append-nil, sym}
use Rattle.hep_conditions.specs.Words.{function_types}
use Rattle.hep_types.proofs.all_ambiguities.add_twice.Goals as goal

pub returns-then-is_known_once : goal.returns-then-is_known_once
returns-then-is_known_once c =
    let found = c.args.found.now.items in
    sym (ap (λ fs. found ++ fs) (c.is_known_once.ensures c.if-is_known_once.true (function_types c.args.program.now)) ∙ append-nil found)
