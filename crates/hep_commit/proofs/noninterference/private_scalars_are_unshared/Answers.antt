use Rattle.hep_commit.proofs.OwnedCells.{unshared}
use Rattle.hep_commit.proofs.noninterference.private_scalars_are_unshared.Goals as goal

pub returns : goal.returns
returns c =
    unshared (record {
      called = c.calls_come_from_statements.ensures.called;
      created = c.calls_come_from_statements.ensures.created;
      referred_to = c.references_come_from_statements.ensures;
    })
