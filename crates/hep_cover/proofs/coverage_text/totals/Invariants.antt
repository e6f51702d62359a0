use Rattle.std.proofs.Common.{◌≡◌, ◌+◌, ◌≤◌, drop}
use Rattle.hep_cover.specs.Lines.{begun_in, can_begin_in}
use Rattle.hep_cover.proofs.coverage_text.totals.Given as goal

abbrev pub invariant-loop-count : goal.invariant-loop-count
invariant-loop-count l =
    record {
      all : l.all + can_begin_in (drop l.count-index l.counts) ≡ can_begin_in l.counts;
      began : l.began + begun_in (drop l.count-index l.counts) ≡ begun_in l.counts;
      few : l.began ≤ l.all;
      within : l.all ≤ l.count-index;
    }
