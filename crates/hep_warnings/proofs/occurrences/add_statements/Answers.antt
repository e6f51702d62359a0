use Rattle.std.proofs.Common.{◌≤◌, ◌+◌, ◌∙◌, sym, ap, length, drop, arith}
use Rattle.std.proofs.lemmas.List.{at_drop_all}
use Rattle.indexmap.specs.IndexMap.{get}
use Rattle.hep_machine.specs.Words.{name_eq}
use Rattle.hep_source.proofs.Tests.{drop_at}
use Rattle.hep_warnings.specs.SingleOccurrences.{after_statements}
use Rattle.hep_warnings.proofs.occurrences.add_statements.Goals as goal

pub loop-statement-preserved : goal.loop-statement-preserved
loop-statement-preserved c = λ x.
    let unit = c.args.symbols.now in
    let ss = c.args.statements.now in
    let i = c.loop-statement.statement-index in
    let old = get name_eq c.loop-statement.map x in
    let here = drop_at ss i c.statement-item.result c.loop-statement-test.true c.statement-item.is in
    ap (λ s. after_statements unit x s (drop (i + 1) ss)) (c.in_ok-add_statement.ensures x)
    ∙ (sym (ap (λ ts. after_statements unit x old ts) here) ∙ c.loop-statement.invariant x)

pub returns : goal.returns
returns c = λ x.
    let ss = c.args.statements.now in
    let i = c.loop-statement.statement-index in
    let e = c.loop-statement-test.false in
    let h : length ss ≤ i = omega arith in
    sym (at_drop_all (λ ts. after_statements c.args.symbols.now x (get name_eq c.loop-statement.map x) ts) ss i h) ∙ c.loop-statement.invariant x
