use Rattle.std.proofs.Common.{◌≤◌, ◌+◌, ◌∙◌, ◌&&◌, not, ap, sym, length, drop, arith}
use Rattle.std.proofs.lemmas.List.{drop_all}
use Rattle.indexmap.specs.IndexSet.{contains}
use Rattle.hep_machine.specs.Words.{function_name, is_among, is_external, is_named, listed_meaning, name_eq, names_listed, names_listed_by}
use Rattle.hep_names.specs.Tables.{either, may_refer}
use Rattle.hep_names.proofs.Referenced.{among-append, left-turn, none-left}
use Rattle.hep_names.proofs.list_table.referenced_names.Goals as goal
use Rattle.hep_source.proofs.Tests.{and-assoc, drop_at}

pub loop-statement-preserved : goal.loop-statement-preserved
loop-statement-preserved c = λ x.
    let unit = c.args.arrays.now in
    let ss = c.statements-statement-items.result.now in
    let i = c.loop-statement.statement-index in
    let s = c.statement-item.result in
    let rest = drop (i + 1) ss in
    let old = contains name_eq c.loop-statement.names.set x in
    let next = drop_at ss i s c.loop-statement-test.true c.statement-item.is in
    let parts = sym (among-append x (names_listed_by s) (names_listed rest)) ∙ ap (λ us. is_among x (names_listed us)) (sym next) in
    left-turn (may_refer unit x) (is_among x (names_listed_by s)) (is_among x (names_listed rest)) old _ _ (c.in_ok-add_referenced.ensures x)
    (ap (λ b. either old (may_refer unit x && b)) parts ∙ c.loop-statement.invariant x)

pub returns : goal.returns
returns c = λ x.
    let unit = c.args.arrays.now in
    let ss = c.statements-statement-items.result.now in
    let i = c.loop-statement.statement-index in
    let e = c.loop-statement-test.false in
    let k : length ss ≤ i = omega arith in
    let found = contains name_eq c.loop-statement.names.set x in
    let m = may_refer unit x in
    sym (none-left m found)
    ∙ (ap (λ us. either found (m && is_among x (names_listed us))) (sym (drop_all i ss k))
    ∙ (c.loop-statement.invariant x ∙ sym (and-assoc (is_external (listed_meaning unit x)) (not (is_named (function_name unit) x)) (is_among x (names_listed unit)))))
