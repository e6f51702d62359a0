use Rattle.std.proofs.Common.{◌≡◌, ◌++◌, drop}
use Rattle.hep_cover.specs.Lcov.{data_lines}
use Rattle.hep_cover.proofs.lcov.append_data_lines.Given as goal

abbrev pub invariant-loop-index : goal.invariant-loop-index
invariant-loop-index l = l.text.items ++ data_lines l.index (drop l.index l.counts) ≡ l.fn.text.items ++ data_lines 0 l.counts
