use Rattle.std.proofs.Common.{◌≡◌, ◌++◌, drop}
use Rattle.hep_event.specs.LineTexts.{all_freed_text}
use Rattle.hep_event.proofs.line_text.append_freed.Given as goal

abbrev pub invariant-loop-activation : goal.invariant-loop-activation
invariant-loop-activation l =
    l.text.items ++ all_freed_text (drop l.activation-index l.activations) ≡ l.initial.text.items ++ all_freed_text l.activations
