-- The cells of what a name in DATA stands for, as tables tell them.
use Rattle.std.proofs.Common.{◌≡◌, ℕ, ℤ, true, List, Option, sym, ap, ◌∙◌, if◌then◌else◌}
use Rattle.std.specs.Option.{option_map}
use Rattle.hep_machine.specs.Words.{trees_of, Target, Statement, integers_of, Values, constant_value, values_of, is_nonempty, Bounds, elements}
use Rattle.hep_places.specs.InitialValues.{cell_of_element, cells_of_all_elements, cells_of_array, number_by}

pub by_subscripts : (unit : List Statement) (common cell : ℕ) (bounds : Bounds) (t : Target) (values : Values) (o : Option (List ℤ)) → is_nonempty t.subscripts ≡ true → values ≡ constant_value unit
    → o ≡ option_map integers_of (values_of unit values (trees_of t.subscripts)) → cell_of_element common cell (number_by bounds o) ≡ cells_of_array unit common cell bounds t
by_subscripts unit common cell bounds t values o h e f =
    ap (λ q. cell_of_element common cell (number_by bounds q)) (f ∙ ap (λ (vs : Values). option_map integers_of (values_of unit vs (trees_of t.subscripts))) e)
    ∙ sym (ap (λ b. if b then cell_of_element common cell (number_by bounds (option_map integers_of (values_of unit (constant_value unit) (trees_of t.subscripts)))) else cells_of_all_elements common cell (elements bounds)) h)
