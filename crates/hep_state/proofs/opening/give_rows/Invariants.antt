use Rattle.std.proofs.Common.{◌≡◌, ◌-◌, drop, length}
use Rattle.hep_proc.specs.Nodes.{nodes_of}
use Rattle.hep_state.specs.Words.{IsGiven}
use Rattle.hep_state.proofs.opening.give_rows.Given as goal

abbrev pub invariant-loop-row : goal.invariant-loop-row
invariant-loop-row l =
    record {
      given : IsGiven (drop (length l.rows - length l.yielded) l.rows) l.initial.frames.arena l.frames.arena;
      nodes : nodes_of l.frames.nodes ≡ nodes_of l.initial.frames.nodes;
    }
