use Rattle.std.proofs.Common.{◌≤◌, ◌+◌, ◌∙◌, ◌||◌, sym, length, drop, arith}
use Rattle.std.proofs.lemmas.List.{at_drop_all, at_drop_more}
use Rattle.std.specs.List.{list_any}
use Rattle.indexmap.specs.IndexSet.{contains}
use Rattle.hep_machine.specs.Words.{name_eq}
use Rattle.hep_warnings.proofs.Sets.{turn}
use Rattle.hep_warnings.proofs.used_names.set_of.Goals as goal

pub loop-name-preserved : goal.loop-name-preserved
loop-name-preserved c = λ x.
    let xs = c.args.names.now in
    let i = c.loop-name.name-index in
    let old = contains name_eq c.loop-name.set x in
    turn _ (list_any (name_eq x) (drop (i + 1) xs)) old _ _ (c.in_ok-add.ensures x)
    (sym (at_drop_more (λ ys. list_any (name_eq x) ys || old) xs i _ c.loop-name-test.true) ∙ c.loop-name.invariant x)

pub returns : goal.returns
returns c = λ x.
    let xs = c.args.names.now in
    let i = c.loop-name.name-index in
    let e = c.loop-name-test.false in
    let h : length xs ≤ i = omega arith in
    sym (at_drop_all (λ ys. list_any (name_eq x) ys || contains name_eq c.loop-name.set x) xs i h) ∙ c.loop-name.invariant x
