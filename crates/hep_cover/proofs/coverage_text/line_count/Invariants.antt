use Rattle.std.proofs.Common.{◌≡◌, ◌+◌, ◌≤◌, length}
use Rattle.hep_text.specs.Line.{lines}
use Rattle.hep_cover.proofs.coverage_text.line_count.Given as goal

abbrev pub decreases-loop-rest : goal.decreases-loop-rest
decreases-loop-rest l = length l.rest

abbrev pub invariant-loop-rest : goal.invariant-loop-rest
invariant-loop-rest l =
    record {
      so_far : l.count + length (lines l.rest) ≡ length (lines l.text);
      few : l.count + length l.rest ≤ length l.text;
    }
