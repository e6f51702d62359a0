use Rattle.std.proofs.Common.{◌∙◌}
use Rattle.hep_private.specs.declared.progress.StepProgress.{StepProgress}
use Rattle.hep_private.proofs.FinishedSegments.{computed, is-segment}
use Rattle.hep_private.proofs.segment.compute_into.Goals as goal
use Rattle.hep_private.proofs.segment.compute_into.Goals.{After-take_steps}

-- before the first step
abbrev begun : After-take_steps → StepProgress
begun c = record { records = c.clear.new.self; operands = c.assign-2.new.operands; index = c.index-segment-inside-2.result }

pub invariant_of-segment : goal.invariant_of-segment
invariant_of-segment c =
    is-segment c.args.image.now c.args.ticket.now c.id-segment-inside.result c.unit-segment-inside.result c.index-segment-inside.result c.assign.new.operands (begun c) c.take_steps.new.progress c.copies.result.now c.unit.result
    c.id-segment-inside.ensures c.unit-segment-inside.ensures c.index-segment-inside.ensures (c.assign.ensures ∙ c.operands.ensures.operands) c.unit.ensures c.index-segment-inside-2.ensures
    (c.assign-2.ensures ∙ c.operands-2.ensures.operands) c.copies.ensures c.take_steps.ensures

pub returns : goal.returns
returns c =
    computed c.args.image.now c.args.ticket.now c.id-segment-inside.result c.unit-segment-inside.result c.index-segment-inside.result c.assign.new.operands (begun c) c.take_steps.new.progress c.copies.result.now c.unit.result
    c.id-segment-inside.ensures c.unit-segment-inside.ensures c.index-segment-inside.ensures (c.assign.ensures ∙ c.operands.ensures.operands) c.unit.ensures c.index-segment-inside-2.ensures
    (c.assign-2.ensures ∙ c.operands-2.ensures.operands) c.copies.ensures c.take_steps.ensures
