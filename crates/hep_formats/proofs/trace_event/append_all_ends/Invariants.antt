use Rattle.std.proofs.Common.{◌≡◌, ◌++◌, ◌+◌, drop}
use Rattle.hep_formats.specs.TraceEvents as words
use Rattle.hep_formats.proofs.trace_event.append_all_ends.Given as goal

abbrev pub invariant-loop-state : goal.invariant-loop-state
invariant-loop-state l = record {
  so_far : l.text.items ++ words.all_ends l.p l.time (drop l.state-index l.states) ≡ l.fn.text.items ++ words.all_ends 1 l.time l.states;
  index : l.p ≡ l.state-index + 1;
}
