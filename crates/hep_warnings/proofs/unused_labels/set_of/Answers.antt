use Rattle.std.proofs.Common.{◌≤◌, ◌+◌, ◌∙◌, ◌||◌, nat_eq, get_or, sym, length, drop, arith}
use Rattle.std.proofs.lemmas.List.{at_drop_all, at_drop_more}
use Rattle.std.specs.List.{list_any}
use Rattle.indexmap.specs.IndexSet.{contains}
use Rattle.hep_warnings.proofs.Sets.{turn}
use Rattle.hep_warnings.proofs.unused_labels.set_of.Goals as goal

pub loop-label-preserved : goal.loop-label-preserved
loop-label-preserved c = λ k.
    let xs = c.args.used.now in
    let i = c.loop-label.label-index in
    let old = contains nat_eq c.loop-label.set k in
    turn (nat_eq k (get_or xs i 0)) (list_any (nat_eq k) (drop (i + 1) xs)) old _ _ (c.in_ok-add.ensures k)
    (sym (at_drop_more (λ ys. list_any (nat_eq k) ys || old) xs i 0 c.loop-label-test.true) ∙ c.loop-label.invariant k)

pub returns : goal.returns
returns c = λ k.
    let xs = c.args.used.now in
    let i = c.loop-label.label-index in
    let e = c.loop-label-test.false in
    let h : length xs ≤ i = omega arith in
    sym (at_drop_all (λ ys. list_any (nat_eq k) ys || contains nat_eq c.loop-label.set k) xs i h) ∙ c.loop-label.invariant k
