use Rattle.std.proofs.Common.{◌≡◌, ◌++◌, drop}
use Rattle.hep_event.specs.ValueTexts.{further_texts}
use Rattle.hep_event.proofs.value_text.append_all_further.Given as goal

abbrev pub invariant-loop-value : goal.invariant-loop-value
invariant-loop-value l = l.text.items ++ further_texts (drop l.value-index l.values) ≡ l.initial.text.items ++ further_texts l.values
