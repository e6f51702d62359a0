use Rattle.hep_commit.proofs.OwnedCells.{HaveSources, others-keep, scalars-stay}
use Rattle.hep_commit.proofs.noninterference.others_leave_private_scalars.Goals.{After-references_come_from_statements}
use Rattle.hep_commit.proofs.noninterference.others_leave_private_scalars.Goals as goal

sources : After-references_come_from_statements → HaveSources
sources c =
    record {
      called = c.calls_come_from_statements.ensures.called;
      created = c.calls_come_from_statements.ensures.created;
      referred_to = c.references_come_from_statements.ensures;
    }

pub returns-clause-scalars : goal.returns-clause-scalars
returns-clause-scalars c program choices p top t a x i made lives = scalars-stay (sources (goal.at.returns-clause-scalars c).After-references_come_from_statements) program choices p top t made lives a x i

pub returns-clause-processes : goal.returns-clause-processes
returns-clause-processes c = others-keep (sources (goal.at.returns-clause-processes c).After-references_come_from_statements)
