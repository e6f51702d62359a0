use Rattle.std.proofs.Common.{◌≡◌, ◌∙◌, [], ap, subst, sym}
use Rattle.std.specs.Option.{is_some}
use Rattle.hep_machine.specs.Words.{unit_at}
use Rattle.hep_image.specs.Private.{private_cells}
use Rattle.hep_private.specs.OwnState.{begun}
use Rattle.hep_private.specs.StepRecords.{next_made}
use Rattle.hep_private.specs.StepProgress.{own_behind}
use Rattle.hep_private.specs.ActivationPlaces.{start_at}
use Rattle.hep_private.proofs.AbsentUnits as coded
use Rattle.hep_private.proofs.activation_place.is_next_private.Goals as goal

pub returns-in_default : goal.returns-in_default
returns-in_default c =
    let start = start_at c.args.place.now in
    sym (ap is_some (coded.none-next c.args.image.now start.unit (private_cells (unit_at c.args.image.now start.unit)) (begun start.index start.operands start.values) c.in_default.ensures.none))

pub returns : goal.returns
returns c =
    let place = c.args.place.now in
    let unit = c.in-Some.ensures.there in
    let private = c.as_slice-2.ensures ∙ unit.private_are in
    let code = c.as_slice.ensures ∙ unit.code in
    subst (λ (is : Type 0). is) (λ i. c.is_first_private.result ≡ is_some (next_made (private i) (code i) (own_behind (c.base.ensures i) [] place.operands.now place.index))) c.is_first_private.ensures
