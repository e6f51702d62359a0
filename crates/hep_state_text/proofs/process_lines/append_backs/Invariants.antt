use Rattle.std.proofs.Common.{◌≡◌, ◌++◌, drop, reverse}
use Rattle.hep_proc.specs.Nodes.{nodes_of}
use Rattle.hep_state.specs.Words.{AreThere}
use Rattle.hep_text.specs.LineDisplay.{line_shown}
use Rattle.hep_state_text.specs.ProcessLines.{backs_seen}
use Rattle.hep_state_text.proofs.process_lines.append_backs.Given as goal

abbrev pub invariant-loop-index : goal.invariant-loop-index
invariant-loop-index l =
    record {
      there : AreThere l.source.image.now (nodes_of l.frames.nodes) (drop l.index (reverse l.levels));
      so_far : l.text.items ++ backs_seen l.source.image.now (nodes_of l.frames.nodes) (line_shown l.source.lines.now) (drop l.index (reverse l.levels)) ≡ l.initial.text.items ++ backs_seen l.source.image.now (nodes_of l.frames.nodes) (line_shown l.source.lines.now) (reverse l.levels);
    }
