use Rattle.std.proofs.Common.{◌≡◌, ◌++◌, drop}
use Rattle.hep_dump.specs.Elements.{further_text}
use Rattle.hep_dump.proofs.elements.append_further.Given as goal

abbrev pub invariant-loop-bound : goal.invariant-loop-bound
invariant-loop-bound l = l.text.items ++ further_text (drop l.bound-index l.bounds) l.left ≡ l.initial.text.items ++ further_text l.bounds l.before
