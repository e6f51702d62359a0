use Rattle.std.proofs.Common.{◌∙◌, length, subst}
use Rattle.hep_private.specs.ActivationPlaces.{start_at}
use Rattle.hep_private.specs.BoundedSteps.{HasTaken}
use Rattle.hep_private.proofs.RemadeSegments.{again-made, made-again}
use Rattle.hep_private.proofs.activation_place.is_made.Goals as goal

pub returns : goal.returns
returns c =
    let image = c.args.image.now in
    let place = c.args.place.now in
    let start = start_at place in
    let s = c.args.segment.now in
    let p = c.take_steps.new.progress in
    let begins = c.begins.ensures.0 c.if-not-begins.false in
    let taken : HasTaken image start (length s.records) p =
    subst (λ (is : Type 0). is) (λ i. HasTaken image (record {
      unit = place.unit;
      index = (c.index.ensures ∙ begins.index) i;
      operands = (c.assign.ensures ∙ c.operands.ensures.operands ∙ begins.operands) i;
      values = c.base.ensures i;
    }) (length (c.records.ensures.records i)) p) c.take_steps.ensures in (
      λ is. let come = c.has_come.ensures.0 is in made-again image start s p taken begins come.0 come.1 come.2,
      λ made. c.has_come.ensures.1 (again-made image start s p taken begins made.1),
    )
