use Rattle.std.proofs.Common.{◌≡◌, ◌-◌, ◌≤◌, None, Some, length, if◌then◌else◌, not}
use Rattle.hep_machine.specs.Words.{first_above, progress_after}
use Rattle.hep_core.specs.CoreValues.{free_of}
use Rattle.hep_core.specs.Tickets.{is_out}
use Rattle.hep_core.proofs.run_core.Core.free_above.Given as goal

-- the one that comes next is this one, unless it is out, and then it is above it
abbrev pub invariant-loop-next : goal.invariant-loop-next
invariant-loop-next l =
    (first_above l.p (free_of l.self.core) None ≡ (if not (is_out l.next l.self.core.out) then Some l.next else first_above l.next (free_of l.self.core) None))
    × (l.next ≤ length (progress_after l.self.core.program l.self.core.history).state.processes)

abbrev pub decreases-loop-next : goal.decreases-loop-next
decreases-loop-next l = length (progress_after l.self.core.program l.self.core.history).state.processes - l.next
