use Rattle.std.proofs.Common.{◌≡◌, List, length, Some, ap, sym, ◌∙◌, slice_get}
use Rattle.std.proofs.lemmas.Option.{slice_get_read}
use Rattle.hep_machine.specs.Words.{Units}
use Rattle.hep_image.specs.declared.unit.UnitCode.{UnitCode}
use Rattle.hep_image.proofs.image.Image.unit.Goals as goal

pub returns : goal.returns
returns c =
    let units = c.as_slice.result.now in
    let unit = c.index-as_slice-index.result in
    let count : length c.args.self.now ≡ length units =
    sym (ap length c.as_slice.ensures ∙ c.self.invariant.all ∙ ap (λ (xs : Units). length xs) c.self.view_is) in
    let here : slice_get units c.args.index ≡ Some unit = slice_get_read units (length c.args.self.now) c.args.index unit count c.requires c.index-as_slice-index.is in
    let there : slice_get c.self.inside.units c.args.index ≡ Some unit = ap (λ (xs : List UnitCode). slice_get xs c.args.index) (sym c.as_slice.ensures) ∙ here in
    rw (sym c.self.view_is) (c.self.invariant.units_are c.args.index unit there)
