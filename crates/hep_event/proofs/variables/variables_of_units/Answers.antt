use Rattle.std.proofs.Common.{◌≡◌, ◌++◌, ◌∷◌, [], ◌+◌, ◌<◌, ◌≤◌, ◌∙◌, ℕ, List, Some, drop, length, map, ap, sym, arith, append_assoc, get_or}
use Rattle.std.proofs.lemmas.Option.{same_Some, slice_get-get_or}
use Rattle.hep_code.specs.declared.variable.Variable.{Variable}
use Rattle.hep_image.proofs.Numbers.{unit-there}
use Rattle.hep_machine.specs.Words.{Statement, Units, common_cells, frame_cells, unit_at}
use Rattle.hep_source.proofs.Tests.{drop_at}
use Rattle.hep_event.specs.Variables.{variables_of_names}
use Rattle.hep_event.proofs.variables.variables_of_units.Goals as goal

-- the unit at an index
unit-is : (program : Units) (i : ℕ) (unit : List Statement) → i < length program → unit ≡ get_or program i unit → unit ≡ unit_at program i
unit-is program i unit inside is =
    same_Some unit (unit_at program i) (ap (λ u. Some u) is ∙ sym (slice_get-get_or program i unit inside) ∙ unit-there program i inside)

pub loop-index-preserved : goal.loop-index-preserved
loop-index-preserved c =
    let program = c.args.image.now in
    let i = c.loop-index.index in
    let unit = c.symbols-item.result in
    let all : c.units-symbols-items.result.now ≡ program = c.units-symbols-items.ensures ∙ c.requires.program in
    let inside : i < length program = omega (arith, c.loop-index-test.true, ap length all) in
    let item : unit ≡ get_or program i unit = c.symbols-item.is ∙ ap (λ (us : Units). get_or us i unit) all in
    let is = unit-is program i unit inside item in
    let small : frame_cells (unit_at program i) ≤ 16777216 = omega (arith, c.unit-code.ensures.cells, c.unit-code.ensures.few_cells) in
    let few : common_cells program ≤ 16777216 = omega (arith, c.common-cells.ensures.common, c.common-cells.ensures.few) in
    let own = c.in_ok-variables_of_unit.ensures program i c.is_runnable.ensures.accepted inside is c.requires.starts few small in
    let f = variables_of_names program in
    let rest = map f (drop (i + 1) program) in
    ap (λ (xs : List (List Variable)). xs ++ rest) c.in_ok-push.ensures.items
    ∙ append_assoc c.loop-index.units.items (c.in_ok-variables_of_unit.field-0 ∷ []) rest
    ∙ ap (λ (v : List Variable). c.loop-index.units.items ++ v ∷ rest) (own ∙ ap f (sym is))
    ∙ ap (λ (us : Units). c.loop-index.units.items ++ map f us) (sym (drop_at program i unit inside item))
    ∙ c.loop-index.invariant
