use Rattle.std.proofs.Common.{◌≡◌, ◌++◌, drop, take}
use Rattle.hep_formats.specs.TraceLines as words
use Rattle.hep_formats.proofs.trace_line.before_effects.Given as goal

abbrev pub invariant-loop-index : goal.invariant-loop-index
invariant-loop-index l = take l.index l.text ++ words.before_effects (drop l.index l.text) ≡ words.before_effects l.text
