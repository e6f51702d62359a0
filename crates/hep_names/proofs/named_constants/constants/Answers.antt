use Rattle.std.proofs.Common.{◌≤◌, ◌+◌, ◌∙◌, [], ap, sym, drop, length, arith}
use Rattle.std.proofs.lemmas.List.{drop_all}
use Rattle.hep_machine.specs.Words.{value_among, given_by, named_constants}
use Rattle.hep_names.proofs.ConstantsInOrder.{constants-turn}
use Rattle.hep_names.proofs.named_constants.constants.Goals as goal
use Rattle.hep_source.proofs.Tests.{drop_at}

pub loop-statement-preserved : goal.loop-statement-preserved
loop-statement-preserved c =
    let ss = c.statements-statement-items.result.now in
    let i = c.loop-statement.statement-index in
    constants-turn c.args.table.now (drop i ss) (drop (i + 1) ss) c.statement-item.result c.constants_in.result.now c.loop-statement.constants c.give.new.constants _
    (drop_at ss i c.statement-item.result c.loop-statement-test.true c.statement-item.is) c.loop-statement.invariant c.constants_in.ensures c.in_ok-give.ensures

pub returns : goal.returns
returns c =
    let ss = c.statements-statement-items.result.now in
    let i = c.loop-statement.statement-index in
    let k : length ss ≤ i = omega arith in
    sym (ap (λ us. value_among (given_by c.args.table.now c.loop-statement.constants (named_constants us))) (drop_all i ss k))
    ∙ (c.loop-statement.invariant ∙ ap (λ us. value_among (given_by c.args.table.now [] (named_constants us))) c.statements-statement-items.ensures)
