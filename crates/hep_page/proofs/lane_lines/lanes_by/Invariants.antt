use Rattle.std.proofs.Common.{◌≡◌, ◌++◌, drop, map}
use Rattle.hep_page.specs.Pictures as words
use Rattle.hep_page.proofs.lane_lines.lanes_by.Given as goal

abbrev pub invariant-loop-number : goal.invariant-loop-number
invariant-loop-number l =
    map words.lane_of l.lanes.items ++ map (words.lane_in (map (λ line. line.now) l.lines) (map (λ line. line.now) l.back)) (drop l.number-index l.numbers)
    ≡ map (words.lane_in (map (λ line. line.now) l.lines) (map (λ line. line.now) l.back)) l.numbers
