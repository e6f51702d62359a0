use Rattle.std.proofs.Common.{◌≡◌, ◌++◌, drop}
use Rattle.std.specs.List.{flat_map}
use Rattle.hep_explore.specs.Contents.{cells_from}
use Rattle.hep_explore.specs.Keys.{slot_words}
use Rattle.hep_explore.proofs.key_parts.append_cells.Given as goal

abbrev pub invariant-loop-index : goal.invariant-loop-index
invariant-loop-index l =
    l.words.items ++ flat_map slot_words (drop l.index (cells_from l.frames.arena.contents l.first l.count))
    ≡ l.initial.words.items ++ flat_map slot_words (cells_from l.frames.arena.contents l.first l.count)
