use Rattle.std.proofs.Common.{◌≡◌, ◌++◌, drop, map}
use Rattle.std.specs.List.{flat_map}
use Rattle.hep_proc.specs.Nodes.{nodes_of}
use Rattle.hep_explore.specs.Contents.{frame_at}
use Rattle.hep_explore.specs.Keys.{frame_words}
use Rattle.hep_explore.proofs.key_parts.append_frames.Given as goal

abbrev pub invariant-loop-key : goal.invariant-loop-key
invariant-loop-key l =
    l.words.items ++ flat_map frame_words (map (frame_at (nodes_of l.frames.nodes) l.frames.arena.contents) (drop l.key-index l.keys))
    ≡ l.initial.words.items ++ flat_map frame_words (map (frame_at (nodes_of l.frames.nodes) l.frames.arena.contents) l.keys)
