use Rattle.std.proofs.Common.{refl}
use Rattle.hep_private.specs.BaseValues.{values_of}
use Rattle.hep_private.specs.declared.progress.StepProgress.{StepProgress}
use Rattle.hep_private.specs.ActivationPlaces.{start_at}
use Rattle.hep_private.proofs.FinishedSegments.{computed-from, is-segment-from}
use Rattle.hep_private.proofs.segment.compute_from.Goals as goal
use Rattle.hep_private.proofs.segment.compute_from.Goals.{After-take_steps}

-- before the first step
abbrev begun : After-take_steps → StepProgress
begun c = record { records = c.clear.new.self; operands = c.assign-2.new.operands; index = c.args.place.now.index }

pub invariant_of-segment : goal.invariant_of-segment
invariant_of-segment c =
    is-segment-from c.args.image.now (start_at c.args.place.now) c.args.most c.requires.few c.args.id c.assign.new.operands (values_of c.base.result) (begun c) c.take_steps.new.progress
    c.assign.ensures refl c.assign-2.ensures c.base.ensures c.take_steps.ensures

pub returns-clause-computed : goal.returns-clause-computed
returns-clause-computed c =
    computed-from c.args.image.now (start_at c.args.place.now) c.args.most c.requires.few c.args.id c.assign.new.operands (values_of c.base.result) (begun c) c.take_steps.new.progress
    c.assign.ensures refl c.assign-2.ensures c.base.ensures c.take_steps.ensures
