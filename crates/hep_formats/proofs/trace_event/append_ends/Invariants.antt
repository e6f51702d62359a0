use Rattle.std.proofs.Common.{◌≡◌, ◌++◌}
use Rattle.hep_formats.specs.TraceEvents as words
use Rattle.hep_formats.proofs.trace_event.append_ends.Given as goal

abbrev pub invariant-loop-left : goal.invariant-loop-left
invariant-loop-left l = l.text.items ++ words.ends l.p l.time l.left ≡ l.fn.text.items ++ words.ends l.p l.time l.count

abbrev pub decreases-loop-left : goal.decreases-loop-left
decreases-loop-left l = l.left
