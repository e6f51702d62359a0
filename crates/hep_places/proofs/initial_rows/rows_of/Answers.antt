use Rattle.std.proofs.Common.{[], ◌∷◌, ap, sym, ◌∙◌}
use Rattle.std.specs.Option.{option_or}
use Rattle.indexmap.specs.IndexMap.{get}
use Rattle.hep_machine.specs.Words.{name_eq}
use Rattle.hep_names.specs.Statements.{rest_after}
use Rattle.hep_names.proofs.Trees.{after-append}
use Rattle.hep_image.specs.Data.{value_in_rows}
use Rattle.hep_places.specs.InitialValues.{value_by_groups}
use Rattle.hep_places.proofs.Grouping.{group_turn}
use Rattle.hep_places.proofs.initial_rows.rows_of.Goals as goal

pub loop-group-preserved : goal.loop-group-preserved
loop-group-preserved c = λ p.
    let f = c.args.frame.now in
    let gs = rest_after c.pop.new.self.items in
    let old = value_in_rows c.loop-group.rows.items p in
    let popped = ap rest_after c.in-Some.ensures.items ∙ after-append c.pop.new.self.items (c.in-Some.group ∷ []) in
    group_turn f.symbols.now (get name_eq f.variables.now) f.arrays.now f.common p old (value_in_rows c.add_group.new.rows.items p) _ gs c.in-Some.group.now
    (ap (λ hs. option_or old (value_by_groups f.symbols.now (get name_eq f.variables.now) f.arrays.now f.common hs p)) (sym popped) ∙ c.loop-group.invariant p) (c.in_ok-add_group.ensures p)
