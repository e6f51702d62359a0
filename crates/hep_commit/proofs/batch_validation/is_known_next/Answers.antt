use Rattle.hep_private.specs.ActivationPlaces.{start_at}
use Rattle.hep_commit.proofs.batch_validation.is_known_next.Goals as goal

-- what was made by the image comes next where it is kept
pub returns : goal.returns
returns c =
    let program = c.args.image.now in
    let start = start_at c.args.place.now in
    let s = c.args.segment.now in
    let law = c.segments_depend_on_reads.ensures in
    let known = c.requires in (
      λ is. law.made program known.0 start s known.1 (c.is_kept.ensures.0 is),
      λ made. c.is_kept.ensures.1 (law.kept program start s made),
    )
