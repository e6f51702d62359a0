use Rattle.std.proofs.Common.{List, drop, sym, subst, ◌+◌, option_to_list}
use Rattle.indexmap.specs.IndexMap.{get}
use Rattle.hep_machine.specs.Words.{Target, name_eq}
use Rattle.std.proofs.lemmas.List.{drop_all}
use Rattle.hep_places.specs.CellRows.{Gives}
use Rattle.hep_places.specs.InitialValues.{all_cells_named, cells_named}
use Rattle.hep_places.specs.GroupValues.{left}
use Rattle.hep_places.proofs.InitialRows.{both_given, nothing_given}
use Rattle.hep_places.proofs.group_rows.add_targets.Goals as goal
use Rattle.hep_source.proofs.Tests.{drop_at}

pub loop-target-preserved : goal.loop-target-preserved
loop-target-preserved c = λ after new g.
    let f = c.args.frame.now in
    let ts = c.args.targets.now in
    let i = c.loop-target.target-index in
    let r = c.loop-target.rows.items in
    let v = left c.loop-target.values in
    let table = get name_eq f.variables.now in
    let here = option_to_list (cells_named f.symbols.now table f.arrays.now f.common c.target-item.result) in
    let behind = all_cells_named f.symbols.now table f.arrays.now f.common (drop (i + 1) ts) in
    c.loop-target.invariant after new (
    subst (λ (us : List Target). Gives (all_cells_named f.symbols.now table f.arrays.now f.common us) r v after new) (sym (drop_at ts i c.target-item.result c.loop-target-test.true c.target-item.is)) (
    both_given here behind r c.add_target.new.rows.items after v (left c.add_target.new.values) new c.in_ok-add_target.ensures g))

pub returns : goal.returns
returns c =
    let f = c.args.frame.now in
    let ts = c.args.targets.now in
    let r = c.loop-target.rows.items in
    let v = left c.loop-target.values in
    c.loop-target.invariant r v (
    subst (λ (us : List Target). Gives (all_cells_named f.symbols.now (get name_eq f.variables.now) f.arrays.now f.common us) r v r v) (sym (drop_all c.loop-target.target-index ts c.loop-target-test.false)) (nothing_given r v))
