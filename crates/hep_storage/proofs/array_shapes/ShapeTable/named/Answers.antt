use Rattle.std.proofs.Common.{◌∙◌, ap, sym}
use Rattle.std.specs.Option.{option_map}
use Rattle.hep_machine.specs.Words.{trees_of, integers_of, value_among, values_of}
use Rattle.hep_storage.proofs.DataNames.{scalar-named, array-named, nonempty-not}
use Rattle.hep_storage.proofs.array_shapes.ShapeTable.named.Goals as goal

pub returns-then-not-is_array-clause-named : goal.returns-then-not-is_array-clause-named
returns-then-not-is_array-clause-named c =
    let t = c.args.target.now in
    scalar-named c.args.symbols.now c.args.constants.now t c.is_empty.result c.scalar.result (sym c.is_array.ensures ∙ c.if-not-is_array.true)
    (nonempty-not t.subscripts c.as_slice-subscripts.result.now c.is_empty.result c.as_slice-subscripts.ensures c.is_empty.ensures) c.scalar.ensures

pub returns-in-Some-clause-named : goal.returns-in-Some-clause-named
returns-in-Some-clause-named c =
    let t = c.args.target.now in
    let unit = c.args.symbols.now in
    let known = c.args.constants.now in
    array-named unit known t c.in-Some.shape.now c.is_empty-in-Some.result _ c.array.result (sym c.is_array.ensures ∙ c.if-not-is_array.false)
    (c.in_ok-prepare.ensures.table t.occurrence.name c.in-Some.shape.now (sym c.in-Some.ensures.value))
    (nonempty-not t.subscripts c.as_slice-subscripts.result.now c.is_empty-in-Some.result c.as_slice-subscripts.ensures c.is_empty-in-Some.ensures)
    (c.in_ok-integers.ensures ∙ ap (λ ts. option_map integers_of (values_of unit (value_among known) (trees_of ts))) c.as_slice-subscripts.ensures)
    c.array.ensures
