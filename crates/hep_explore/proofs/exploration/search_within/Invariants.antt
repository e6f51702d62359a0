use Rattle.std.proofs.Common.{◌≤◌, ◌-◌}
use Rattle.hep_explore.proofs.exploration.search_within.Given as goal

abbrev pub invariant-loop-arena : goal.invariant-loop-arena
invariant-loop-arena g l = 1 ≤ l.arena

abbrev pub decreases-loop-arena : goal.decreases-loop-arena
decreases-loop-arena g l = l.cells - l.arena
