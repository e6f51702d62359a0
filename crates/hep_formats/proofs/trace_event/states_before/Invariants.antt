use Rattle.std.proofs.Common.{◌≡◌, replicate}
use Rattle.hep_formats.specs.TraceEvents.{nothing_begun}
use Rattle.hep_formats.proofs.trace_event.states_before.Given as goal

abbrev pub invariant-loop : goal.invariant-loop
invariant-loop l = l.states.items ≡ replicate l.counter nothing_begun
