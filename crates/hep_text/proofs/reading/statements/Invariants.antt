use Rattle.std.proofs.Common.{◌≡◌, ◌+◌, ◌≤◌, length}
use Rattle.hep_text.specs.Line.{lines}
use Rattle.hep_text.specs.Progress.{total}
use Rattle.hep_text.proofs.Joining.{whole}
use Rattle.hep_text.proofs.reading.statements.Given as goal

abbrev pub decreases-loop-rest : goal.decreases-loop-rest
decreases-loop-rest l = length l.rest

abbrev pub invariant-loop-rest : goal.invariant-loop-rest
invariant-loop-rest l = record {
  joined : total l.reading l.number (lines l.rest) ≡ whole l.source;
  small : l.number + length l.rest ≤ 1 + length l.source;
}
