-- Offers: docs/MACHINE.md, "Workers".
use Rattle.std.specs.Prelude.{true, false}
use Rattle.hep_machine.specs.Words.{Units}
use Rattle.hep_private.specs.Segments.{IsMadeBy, SegmentValue}
use Rattle.hep_private.specs.Batches.{IsBatch, segment_of}
use Rattle.hep_commit.specs.declared.offer.Offer.{Offer}
use Rattle.hep_commit.specs.declared.offer.Offer.TheVariants.{Made, Recorded}

-- the segment of an offer; that of a batch has the records of its steps
abbrev pub offered : Units → Offer → SegmentValue
offered program (Recorded segment known) = segment.now
offered program (Made batch) = segment_of program batch.now

-- a segment that is known to be made by the program is made by it; a batch is always
abbrev pub IsKnownOffer : Units → Offer → Type 0
IsKnownOffer program (Recorded segment true) = IsMadeBy program segment.now
IsKnownOffer program (Recorded segment false) = Unit {0}
IsKnownOffer program (Made batch) = IsBatch program batch.now
