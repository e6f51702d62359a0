use Rattle.std.proofs.Common.{◌∙◌, ap, arith, length}
use Rattle.hep_proc.proofs.Levels.{some-levels}
use Rattle.hep_proc.specs.Stacks.{stack_with}
use Rattle.hep_commit.specs.Offers.{offered}
use Rattle.hep_commit.proofs.top_activation.take.Goals as goal
use Rattle.hep_private.specs.InPlace.{stored_with}

pub stand_with-requires : goal.stand_with-requires
stand_with-requires c =
    let r = c.requires.owned.1 in
    record { some = some-levels c.args.process.now r.l r.ls r.operands r.pending r.stack; room = omega (arith, c.requires.fits.room, ap length (c.end_operands.ensures c.args.owned.now.image.now)) }

pub returns-clause-stack : goal.returns-clause-stack
returns-clause-stack c l ls operands pending is =
    let program = c.args.owned.now.image.now in
    c.stand_with.ensures.stack l ls operands pending is ∙ (λ i. stack_with (record l { index = c.end_index.ensures program i }) ls (c.end_operands.ensures program i) pending)

pub returns-clause-cells : goal.returns-clause-cells
returns-clause-cells c l ls operands pending is =
    let at = c.place.ensures l ls operands pending is in
    c.store_over.ensures.contents ∙ (λ i. stored_with (at.framed i).first c.args.frames.now.arena.contents (offered c.args.owned.now.image.now c.args.offer.now).records)
