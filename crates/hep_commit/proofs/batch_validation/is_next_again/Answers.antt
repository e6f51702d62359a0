use Rattle.std.proofs.Common.{subst, sym}
use Rattle.hep_private.specs.Segments.{IsMadeBy}
use Rattle.hep_commit.proofs.BatchStarts.{made-by}
use Rattle.hep_commit.proofs.batch_validation.is_next_again.Goals as goal

pub is_known_next-requires : goal.is_known_next-requires
is_known_next-requires c = subst (IsMadeBy c.args.image.now) (sym c.segment_of.ensures) (made-by c.args.image.now c.args.batch.now c.requires)
