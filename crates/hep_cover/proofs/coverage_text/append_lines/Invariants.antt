use Rattle.std.proofs.Common.{◌≡◌, ◌+◌, ◌++◌, ◌≤◌, length}
use Rattle.hep_text.specs.Line.{lines}
use Rattle.hep_cover.specs.Lines.{lines_text}
use Rattle.hep_cover.proofs.coverage_text.append_lines.Given as goal

abbrev pub decreases-loop-rest : goal.decreases-loop-rest
decreases-loop-rest l = length l.rest

abbrev pub invariant-loop-rest : goal.invariant-loop-rest
invariant-loop-rest l =
    record {
      so_far : l.text.items ++ lines_text l.counts l.before (lines l.rest) ≡ l.fn.text.items ++ lines_text l.counts 0 (lines l.source);
      few : l.before + length l.rest ≤ length l.source;
    }
