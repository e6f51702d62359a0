use Rattle.std.proofs.Common.{◌≡◌, ◌++◌, ◌&&◌, drop, nat_eq, not}
use Rattle.std.specs.List.{filter}
use Rattle.hep_machine.specs.Words.{is_number_among, progress_after}
use Rattle.hep_trace.proofs.woken_processes.awake.Given as goal

abbrev pub invariant-loop-number : goal.invariant-loop-number
invariant-loop-number l =
    l.awake.items ++ filter (λ q. not (is_number_among q (progress_after l.core.core.program l.core.core.history).listed) && not (nat_eq l.p q)) (drop l.number-index l.numbers)
    ≡ filter (λ q. not (is_number_among q (progress_after l.core.core.program l.core.core.history).listed) && not (nat_eq l.p q)) l.numbers
