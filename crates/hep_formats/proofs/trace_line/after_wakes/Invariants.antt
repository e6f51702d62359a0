use Rattle.std.proofs.Common.{◌≡◌, drop}
use Rattle.hep_formats.specs.TraceLines as words
use Rattle.hep_formats.proofs.trace_line.after_wakes.Given as goal

abbrev pub invariant-loop-index : goal.invariant-loop-index
invariant-loop-index l = words.after_wakes (drop l.index l.text) ≡ words.after_wakes l.text
