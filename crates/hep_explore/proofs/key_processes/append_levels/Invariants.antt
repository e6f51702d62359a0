use Rattle.std.proofs.Common.{◌≡◌, ◌++◌, drop, map, reverse}
use Rattle.std.specs.List.{flat_map}
use Rattle.hep_proc.specs.Nodes.{nodes_of}
use Rattle.hep_explore.specs.Contents.{level_of}
use Rattle.hep_explore.specs.Keys.{level_words}
use Rattle.hep_explore.proofs.key_processes.append_levels.Given as goal

abbrev pub invariant-loop-index : goal.invariant-loop-index
invariant-loop-index l =
    l.words.items ++ flat_map level_words (map (level_of (nodes_of l.frames.nodes)) (drop l.index (reverse l.levels)))
    ≡ l.initial.words.items ++ flat_map level_words (map (level_of (nodes_of l.frames.nodes)) (reverse l.levels))
