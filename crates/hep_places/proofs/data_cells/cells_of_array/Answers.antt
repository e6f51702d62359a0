use Rattle.std.proofs.Common.{◌≡◌, true, ap, ◌∙◌, sym}
use Rattle.std.specs.Option.{option_map}
use Rattle.hep_machine.specs.Words.{trees_of, integers_of, value_among, values_of, is_nonempty}
use Rattle.hep_places.specs.InitialValues as given
use Rattle.hep_places.proofs.Naming.{by_subscripts}
use Rattle.hep_places.proofs.data_cells.cells_of_array.Goals as goal

pub returns-in_ok-integers : goal.returns-in_ok-integers
returns-in_ok-integers c =
    let h : is_nonempty c.args.target.now.subscripts ≡ true = sym c.has_subscripts.ensures ∙ c.if-has_subscripts.true in
    c.cell_of_element.ensures ∙ (ap (given.cell_of_element c.args.frame.now.common c.args.cell) c.number_by.ensures
    ∙ by_subscripts c.args.frame.now.symbols.now c.args.frame.now.common c.args.cell c.args.shape.now c.args.target.now (value_among c.constants.result.now) (option_map (λ v. v.items) c.in_ok-integers.integers) h c.constants.ensures
    (c.in_ok-integers.ensures ∙ ap (λ ss. option_map integers_of (values_of c.args.frame.now.symbols.now (value_among c.constants.result.now) (trees_of ss))) c.as_slice-subscripts.ensures))
