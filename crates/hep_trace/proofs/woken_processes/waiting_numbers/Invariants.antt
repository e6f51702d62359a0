use Rattle.std.proofs.Common.{◌≡◌, ◌++◌, ◌-◌, suc, length}
use Rattle.hep_core.specs.CoreValues.{state_of}
use Rattle.hep_trace.specs.WokenProcesses.{listed_from}
use Rattle.hep_trace.proofs.woken_processes.waiting_numbers.Given as goal

abbrev pub invariant-loop-listed : goal.invariant-loop-listed
invariant-loop-listed l =
    l.numbers.items ++ listed_from l.core.core (suc l.last) (length (state_of l.core.core).processes - l.last) ≡ listed_from l.core.core 1 (length (state_of l.core.core).processes)

abbrev pub decreases-loop-listed : goal.decreases-loop-listed
decreases-loop-listed l = length (state_of l.core.core).processes - l.last
