use Rattle.std.proofs.Common.{◌≡◌, ◌+◌, ◌++◌, ◌≤◌, length}
use Rattle.hep_replay.specs.Lines.{repeated}
use Rattle.hep_replay.proofs.lines.past_repeated.Given as goal

abbrev pub invariant-loop-rest_after : goal.invariant-loop-rest_after
invariant-loop-rest_after l = record {
  split : l.text ≡ repeated l.count l.line ++ l.rest;
  few : l.count + length l.rest ≤ length l.text;
}

abbrev pub decreases-loop-rest_after : goal.decreases-loop-rest_after
decreases-loop-rest_after l = length l.rest
