use Rattle.std.proofs.Common.{◌++◌, ap}
use Rattle.hep_conditions.specs.Words.{overlap}
use Rattle.hep_types.specs.Ambiguities.{no_name}
use Rattle.hep_types.specs.AmbiguityLines.{none_seen}
use Rattle.hep_types.proofs.Overlaps.{none-met}
use Rattle.hep_types.proofs.Reported.{letters-more, repeated_from-same}
use Rattle.hep_types.proofs.letters.add_overlapping.Goals as goal

pub loop-range-init : goal.loop-range-init
loop-range-init c = ap (λ fs. c.args.found.now.items ++ fs) (repeated_from-same overlap no_name _ none_seen (λ r. none-met 256 r) c.args.ranges.now)

pub loop-range-preserved : goal.loop-range-preserved
loop-range-preserved c =
    letters-more c.args.ranges.now c.loop-range.range-index _ c.meets-is_overlapping.result c.loop-range.found.items c.add_when.new.found.items _ c.loop-range.lasts c.note.new.lasts
    c.loop-range-test.true c.loop-range.invariant c.in_ok-add_when.ensures c.meets-is_overlapping.ensures c.note.ensures.kept c.note.ensures.within
