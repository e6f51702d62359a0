use Rattle.std.proofs.Common.{◌≡◌, ◌++◌, drop}
use Rattle.hep_replay.specs.CoreValues.{state_of}
use Rattle.hep_why.specs.Watches.{reasons_for}
use Rattle.hep_why.proofs.why.reasons_for.Given as goal

abbrev pub invariant-loop-watch : goal.invariant-loop-watch
invariant-loop-watch l =
    l.reasons.items ++ reasons_for l.core.core.program (state_of l.core.core) (drop l.watch-index l.watches)
    ≡ reasons_for l.core.core.program (state_of l.core.core) l.watches
