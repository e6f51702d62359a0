use Rattle.std.proofs.Common.{Some, ap, ◌∙◌}
use Rattle.std.specs.Option.{option_map}
use Rattle.hep_machine.specs.Words.{if_shape}
use Rattle.hep_places.proofs.Extents.{constant-found, adjustable-found}
use Rattle.hep_places.proofs.arrays.shape_of.Goals as goal

pub returns-in-Some-clause-shape : goal.returns-in-Some-clause-shape
returns-in-Some-clause-shape c =
    let known = c.args.known.now in
    ap (λ s. Some s) (c.new.ensures ∙ ap (λ bs. if_shape (Some bs)) c.deref.ensures.value)
    ∙ constant-found known.symbols.now c.args.name.now c.constants.result.now c.dimensions-dimensions.result.now c.requires c.constants.ensures c.dimensions-dimensions.ensures
    _ c.in-Some.bounds.items c.in_ok-bounds.ensures (ap (option_map (λ v. v.items)) c.in-Some.is)

pub returns-in-None : goal.returns-in-None
returns-in-None c =
    let known = c.args.known.now in
    let found = adjustable-found known.symbols.now c.args.name.now c.constants.result.now c.dimensions-dimensions.result.now c.requires c.constants.ensures c.dimensions-dimensions.ensures
    _ c.in_ok-bounds.ensures (ap (option_map (λ v. v.items)) c.in-None.is) in
    record { shape = found.0; adjustable = λ none. found.1 }
