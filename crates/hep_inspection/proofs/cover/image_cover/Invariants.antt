use Rattle.std.proofs.Common.{drop}
use Rattle.hep_inspection.proofs.CountedHistories.{IsAlong}
use Rattle.hep_inspection.proofs.cover.image_cover.Given as goal

abbrev pub invariant-loop-index : goal.invariant-loop-index
invariant-loop-index l =
    let options = l.asked.options.now in
    IsAlong l.asked.long options l.source l.image options.origins.now (drop l.index options.origins.now) l.counting
