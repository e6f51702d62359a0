use Rattle.hep_private.proofs.KeptSegments.{HaveLaws, kept-made, made-kept}
use Rattle.hep_private.proofs.segment_laws.segments_depend_on_reads.Goals as goal
use Rattle.hep_private.proofs.segment_laws.segments_depend_on_reads.Goals.{After-private_steps_depend_on_reads}

laws : After-private_steps_depend_on_reads → HaveLaws
laws c = record { read = c.private_steps_depend_on_reads.ensures.read; same = c.private_steps_depend_on_reads.ensures.same }

pub returns-clause-kept : goal.returns-clause-kept
returns-clause-kept c = made-kept (laws (goal.at.returns-clause-kept c).After-private_steps_depend_on_reads)

pub returns-clause-made : goal.returns-clause-made
returns-clause-made c program values start s made kept = kept-made (laws (goal.at.returns-clause-made c).After-private_steps_depend_on_reads) program start s values made kept
