use Rattle.std.proofs.Common.{◌≡◌, ◌++◌, drop, false}
use Rattle.hep_output.specs.Records.{items_text}
use Rattle.hep_output.proofs.records.append_items.Given as goal

abbrev pub invariant-loop-item : goal.invariant-loop-item
invariant-loop-item l = l.text.items ++ items_text l.follows (drop l.item-index l.items) ≡ l.initial.text.items ++ items_text false l.items
