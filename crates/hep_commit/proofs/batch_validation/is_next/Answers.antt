use Rattle.std.proofs.Common.{ap, refl, subst, sym, ◌∙◌}
use Rattle.hep_private.specs.OwnState.{values_at}
use Rattle.hep_private.specs.ActivationPlaces.{start_at}
use Rattle.hep_commit.specs.BatchStarts.{AreThere}
use Rattle.hep_commit.specs.OwnCells.{own_cells_of}
use Rattle.hep_commit.proofs.OwnReads.{HaveLaws}
use Rattle.hep_commit.proofs.BatchStarts.{made-there, made-without}
use Rattle.hep_commit.proofs.batch_validation.is_next.Goals as goal
use Rattle.hep_commit.proofs.batch_validation.is_next.Goals.{then-steps-eq0-via-else-steps-eq0+then-are_there, then-steps-eq0-via-then-steps-eq0}

pub returns-then-not-begins : goal.returns-then-not-begins
returns-then-not-begins c = (λ is. absurd cc, λ made. (c.if-not-begins.ensures c.args.owned.now.image.now).1 made.0)

pub returns-then-steps-eq0 : goal.returns-then-steps-eq0
returns-then-steps-eq0 c =
    let program = c.args.owned.now.image.now in
    let place = c.args.place.now in
    let v = c.args.batch.now in
    let h = c.requires.made in
    let laws : HaveLaws = record { read = c.private_steps_depend_on_reads.ensures.read; same = c.private_steps_depend_on_reads.ensures.same } in
    let begins = (c.if-not-begins.ensures program).0 refl in (
      λ is.
          elim c.then-steps-eq0.branch [
            | then-steps-eq0-via-then-steps-eq0 w ↦ made-without program v h laws (start_at place) begins (sym c.steps.ensures.steps ∙ w.if-steps-eq0.true)
            | then-steps-eq0-via-else-steps-eq0+then-are_there w ↦
                made-there program v h laws (start_at place) begins place.first place.slots.now refl (
                subst (λ (is : Type 0). is) (λ i. AreThere place.first place.slots.now (values_at (w.start.ensures i) 0) ((c.cells-cells.ensures ∙ ap (own_cells_of program) (sym begins.unit)) i)) (
                w.are_there.ensures.0 w.if-are_there.true))
          ],
      λ made. refl,
    )
