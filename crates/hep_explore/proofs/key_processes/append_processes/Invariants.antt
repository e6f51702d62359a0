use Rattle.std.proofs.Common.{◌≡◌, ◌++◌, drop, map}
use Rattle.std.specs.List.{flat_map}
use Rattle.hep_proc.specs.Nodes.{nodes_of}
use Rattle.hep_state.specs.Words.{snapshot_of}
use Rattle.hep_explore.specs.Contents.{held_stack}
use Rattle.hep_explore.specs.Keys.{stack_words}
use Rattle.hep_explore.proofs.key_processes.append_processes.Given as goal

abbrev pub invariant-loop-before : goal.invariant-loop-before
invariant-loop-before l =
    l.words.items
    ++ flat_map stack_words (map (held_stack (nodes_of l.machine.frames.nodes)) (drop l.before (snapshot_of l.machine).processes))
    ≡ l.initial.words.items ++ flat_map stack_words (map (held_stack (nodes_of l.machine.frames.nodes)) (snapshot_of l.machine).processes)
