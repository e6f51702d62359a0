use Rattle.hep_machine.specs.Words.{unit_at}
use Rattle.hep_image.specs.Private.{private_cells}
use Rattle.hep_step.specs.Simulation.{unit_code}
use Rattle.hep_commit.specs.PrivateTurns.{own_of}
use Rattle.hep_commit.proofs.OtherTurns.{read-still}
use Rattle.hep_commit.proofs.noninterference.others_leave_what_is_read.Goals as goal

pub returns : goal.returns
returns c t others m n records end turns beside is =
    read-still
    (record {
      called = c.calls_come_from_statements.ensures.called;
      created = c.calls_come_from_statements.ensures.created;
      referred_to = c.references_come_from_statements.ensures;
    }) t turns others m beside n records end is (
    c.private_steps_depend_on_reads.ensures.read (private_cells (unit_at t.program t.level.unit)) (unit_code t.program t.level.unit) n t.level.index t.operands (own_of t).values records end is)
