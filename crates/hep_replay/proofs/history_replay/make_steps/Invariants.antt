use Rattle.std.proofs.Common.{◌≡◌, ◌+◌, ◌≤◌, length, replicate}
use Rattle.hep_machine.specs.Words.{AreSteps}
use Rattle.hep_core.specs.CoreValues.{state_of}
use Rattle.hep_replay.specs.Progress.{longer}
use Rattle.hep_replay.specs.Replays.{most_entries}
use Rattle.hep_replay.proofs.history_replay.make_steps.Given as goal

abbrev pub invariant-loop : goal.invariant-loop
invariant-loop l = record {
  within : length l.fn.core.core.history + l.counter ≤ most_entries;
  there : AreSteps l.fn.core.core.program (state_of l.fn.core.core) (replicate l.counter l.process);
  made : l.core.core ≡ longer l.fn.core.core (replicate l.counter (record { process = l.process; steps = 1 }));
}
