use Rattle.std.proofs.Common.{◌≡◌, ◌++◌, drop}
use Rattle.std.specs.List.{flat_map}
use Rattle.hep_explore.specs.Keys.{value_words}
use Rattle.hep_explore.proofs.key_parts.append_values.Given as goal

abbrev pub invariant-loop-value : goal.invariant-loop-value
invariant-loop-value l =
    l.words.items ++ flat_map value_words (drop l.value-index l.values) ≡ l.initial.words.items ++ flat_map value_words l.values
