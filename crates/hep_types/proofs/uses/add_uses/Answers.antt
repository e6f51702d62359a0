use Rattle.std.proofs.Common.{◌+◌, ◌++◌, ◌∙◌, ap, drop}
use Rattle.hep_machine.specs.Words.{Statement}
use Rattle.hep_conditions.specs.Words.{function_types}
use Rattle.hep_types.specs.Uses.{used_at, names_by}
use Rattle.hep_names.proofs.Firsts.{grow}
use Rattle.hep_types.proofs.uses.add_uses.Goals as goal
use Rattle.hep_source.proofs.Tests.{drop_at}

pub loop-statement-preserved : goal.loop-statement-preserved
loop-statement-preserved c =
    let ss = c.statements-statement-items.result.now in
    let i = c.loop-statement.statement-index in
    let s = c.statement-item.result in
    grow (λ (s : Statement). used_at s.line (names_by (function_types c.args.program.now) c.args.symbols.now c.args.way s)) c.loop-statement.uses.items c.add.new.uses.items _ s (drop i ss) (drop (i + 1) ss)
    c.loop-statement.invariant (c.in_ok-add.ensures ∙ ap (λ xs. c.loop-statement.uses.items ++ used_at s.line xs) (c.deref.ensures.value ∙ c.in_ok-names.ensures))
    (drop_at ss i s c.loop-statement-test.true c.statement-item.is)
