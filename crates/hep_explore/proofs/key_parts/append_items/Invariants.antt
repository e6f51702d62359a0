use Rattle.std.proofs.Common.{◌≡◌, ◌++◌, drop}
use Rattle.std.specs.List.{flat_map}
use Rattle.hep_explore.specs.Keys.{item_words}
use Rattle.hep_explore.proofs.key_parts.append_items.Given as goal

abbrev pub invariant-loop-item : goal.invariant-loop-item
invariant-loop-item l =
    l.words.items ++ flat_map item_words (drop l.item-index l.items) ≡ l.initial.words.items ++ flat_map item_words l.items
