use Rattle.std.proofs.Common.{◌++◌, ◌∙◌, ap, append-nil, sym}
use Rattle.hep_conditions.specs.Words.{function_types}
use Rattle.hep_types.specs.Uses.{uses_of}
use Rattle.hep_types.proofs.Ways.{no-items, none-both}
use Rattle.hep_types.proofs.all_ambiguities.add_other_way.Goals as goal

pub returns-then-not-are_some : goal.returns-then-not-are_some
returns-then-not-are_some c =
    let found = c.args.found.now.items in
    let us = c.args.uses.now in
    let others = uses_of (function_types c.args.program.now) c.args.other c.args.symbols.now in
    sym (ap (λ fs. found ++ fs) (none-both us others (no-items us (sym c.are_some.ensures ∙ c.if-not-are_some.true))) ∙ append-nil found)
