use Rattle.std.proofs.Common.{◌≡◌, ◌∙◌, ℕ, List, None, Option, Some, ap, false, is_some, refl, sym, true, true≢false}
use Rattle.hep_machine.specs.Words.{BlockName, Name, Statement, Units, Value, common_block, constant_value, dummies_of, index_among}
use Rattle.hep_races.proofs.bound_names.source_of.Goals as goal
use Rattle.hep_races.specs.NamesInBounds.{source_by}
use Rattle.hep_races.specs.declared.bound_names.BoundSource.TheVariants.{Common}

module _ (program : Units) (unit : List Statement) (x : Name) where
  -- a constant has no source
  constant : (v : Option Value) (k : Option ℕ) (b : Option BlockName) → is_some v ≡ true → None ≡ source_by program unit x v k b
  constant (Some v) k b e = refl
  constant None k b e = absurd (true≢false (sym e))

  -- the source of another name
  plain : (v : Option Value) (k : Option ℕ) (b : Option BlockName) → is_some v ≡ false
      → source_by program unit x None k b ≡ source_by program unit x v k b
  plain (Some v) k b e = absurd (true≢false e)
  plain None k b e = refl

pub returns-then-is_some : goal.returns-then-is_some
returns-then-is_some c =
    let unit = c.args.unit.now.symbols.now in
    let x = c.args.name in
    let value = c.get.ensures ∙ ap (λ f. f x) c.constants.ensures in
    constant c.args.unit.now.image.now unit x (constant_value unit x) (index_among x (dummies_of unit)) (common_block unit x) (
    ap (λ v. is_some v) (sym value) ∙ sym c.is_some.ensures ∙ c.if-is_some.true)

pub returns-in-Some : goal.returns-in-Some
returns-in-Some c =
    let program = c.args.unit.now.image.now in
    let unit = c.args.unit.now.symbols.now in
    let x = c.args.name in
    let value = c.get.ensures ∙ ap (λ f. f x) c.constants.ensures in
    ap (λ k. source_by program unit x None k (common_block unit x)) (sym c.in-Some.is ∙ c.dummy_position.ensures)
    ∙ plain program unit x (constant_value unit x) (index_among x (dummies_of unit)) (common_block unit x) (
    ap (λ v. is_some v) (sym value) ∙ sym c.is_some.ensures ∙ c.if-is_some.false)

pub returns-in_ok-common_place-in-Some-common_block : goal.returns-in_ok-common_place-in-Some-common_block
returns-in_ok-common_place-in-Some-common_block c =
    let program = c.args.unit.now.image.now in
    let unit = c.args.unit.now.symbols.now in
    let x = c.args.name in
    let value = c.get.ensures ∙ ap (λ f. f x) c.constants.ensures in
    ap (λ at. Some (Common at)) c.in_ok-common_place-in-Some-common_block.ensures
    ∙ ap (λ k. source_by program unit x None k (Some c.in-Some-common_block.block)) (sym c.in_default.is ∙ c.dummy_position.ensures)
    ∙ ap (λ b. source_by program unit x None (index_among x (dummies_of unit)) b) (sym c.in-Some-common_block.is ∙ c.common_block.ensures)
    ∙ plain program unit x (constant_value unit x) (index_among x (dummies_of unit)) (common_block unit x) (
    ap (λ v. is_some v) (sym value) ∙ sym c.is_some.ensures ∙ c.if-is_some.false)
