use Rattle.std.proofs.Common.{◌≡◌, ◌++◌, drop, map}
use Rattle.hep_formats.specs.TraceEvents as words
use Rattle.hep_formats.proofs.trace_event.append_all.Given as goal

abbrev pub invariant-loop-line : goal.invariant-loop-line
invariant-loop-line l = record {
  so_far : l.text.items ++ words.events_from l.time l.states.items (map (λ line. line.now) (drop l.line-index l.lines))
      ≡ l.fn.text.items ++ words.events_from 0 l.fn.states.items (map (λ line. line.now) l.lines);
  index : l.time ≡ l.line-index;
}
