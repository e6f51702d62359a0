use Rattle.std.proofs.Common.{◌≡◌, ◌+◌, ◌∙◌, refl, ap, drop}
use Rattle.std.specs.Option.{option_or, option_map}
use Rattle.indexmap.specs.IndexMap.{get}
use Rattle.hep_conditions.specs.Words.{with_parameters}
use Rattle.hep_names.specs.Statements.{rest_after}
use Rattle.hep_machine.specs.Words.{name_eq, declarator_among, declarators_in}
use Rattle.hep_names.proofs.ArraysAmong.{among_arrays}
use Rattle.hep_types.specs.Bounds.{shape_given}
use Rattle.hep_types.proofs.KnownShapes.{next-shape}
use Rattle.hep_types.proofs.shapes.shapes_of.Goals as goal
use Rattle.hep_source.proofs.Tests.{drop_at}

pub loop-statement-preserved : goal.loop-statement-preserved
loop-statement-preserved c = λ x.
    let unit = c.args.symbols.now in
    let xs = c.statements-statement-items.result.now in
    let i = c.loop-statement.statement-index in
    let form = c.statement-item.result.form in
    let old = get name_eq c.loop-statement.shapes.map x in
    let given : declarator_among x (rest_after c.deref.result.now) ≡ declarator_among x (declarators_in form) =
    ap (declarator_among x) (ap rest_after c.deref.ensures.value ∙ c.in_ok-declarators.ensures) ∙ among_arrays x (declarators_in form) in
    next-shape unit c.loop-statement.parameters c.add_all.new.self x (declarators_in form) old (get name_eq c.note_shapes.new.shapes x) c.statement-item.result (drop i xs) (drop (i + 1) xs) _
    (c.loop-statement.invariant x) (c.in_ok-note_shapes.ensures x ∙ ap (λ o. option_or old (option_map (shape_given unit c.loop-statement.parameters) o)) given) refl
    (c.in_ok-add_all.ensures.taken ∙ ap (with_parameters unit c.loop-statement.parameters) c.constants_in.ensures)
    (drop_at xs i c.statement-item.result c.loop-statement-test.true c.statement-item.is)
