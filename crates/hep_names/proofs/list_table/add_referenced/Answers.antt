use Rattle.std.proofs.Common.{◌≤◌, ◌+◌, ◌∙◌, ◌&&◌, List, ap, sym, map, length, drop, arith}
use Rattle.std.proofs.lemmas.List.{drop_all}
use Rattle.indexmap.specs.IndexSet.{contains}
use Rattle.hep_machine.specs.Words.{Name, is_among, name_eq}
use Rattle.hep_names.specs.Lists.{listed}
use Rattle.hep_names.specs.Tables.{either, may_refer}
use Rattle.hep_names.proofs.Referenced.{added-turn, left_out-turn, names_by_statement, none-left}
use Rattle.hep_names.proofs.list_table.add_referenced.Goals as goal
use Rattle.hep_names.proofs.list_table.add_referenced.Goals.{then-may_refer+in_ok-add, else-may_refer}
use Rattle.hep_source.proofs.Tests.{drop_at}
use Rattle.hep_conditions.specs.Words.{names_of_lists}

pub loop-name-init : goal.loop-name-init
loop-name-init c = λ x.
    ap (λ (ns : List Name). either (contains name_eq c.args.names.now x) (may_refer c.args.arrays.now x && is_among x ns))
    (ap names_of_lists (ap (map listed) c.deref-name-items.ensures.value ∙ c.in_ok-names_with_lists.ensures) ∙ names_by_statement c.args.statement.now)

pub loop-name-preserved : goal.loop-name-preserved
loop-name-preserved c = λ x.
    let unit = c.args.arrays.now in
    let xs = c.deref-name-items.result.now in
    let i = c.loop-name.name-index in
    let y = c.name-item.result.occurrence.name in
    let ys = names_of_lists (map listed (drop (i + 1) xs)) in
    let old = contains name_eq c.loop-name.names x in
    let next = drop_at xs i c.name-item.result c.loop-name-test.true c.name-item.is in
    let here = ap (λ ns. either old (may_refer unit x && is_among x (names_of_lists (map listed ns)))) (sym next) ∙ c.loop-name.invariant x in
    elim c.if-may_refer.branch [
      | then-may_refer+in_ok-add w ↦
          added-turn (may_refer unit) x y ys old _ _ (sym c.may_refer.ensures ∙ w.if-may_refer.true) (ap (λ s. contains name_eq s x) w.names-is ∙ w.in_ok-add.ensures.added x) here
      | else-may_refer w ↦
          ap (λ s. either (contains name_eq s x) (may_refer unit x && is_among x ys)) w.names-is
          ∙ left_out-turn (may_refer unit) x y ys old _ (sym c.may_refer.ensures ∙ w.if-may_refer.false) here
    ]

pub returns : goal.returns
returns c = λ x.
    let xs = c.deref-name-items.result.now in
    let i = c.loop-name.name-index in
    let e = c.loop-name-test.false in
    let k : length xs ≤ i = omega arith in
    let found = contains name_eq c.loop-name.names x in
    let m = may_refer c.args.arrays.now x in
    sym (none-left m found)
    ∙ (ap (λ ns. either found (m && is_among x (names_of_lists (map listed ns)))) (sym (drop_all i xs k)) ∙ c.loop-name.invariant x)
