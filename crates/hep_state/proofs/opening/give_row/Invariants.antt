use Rattle.std.proofs.Common.{◌≡◌, ◌-◌, ◌∷◌, []}
use Rattle.hep_proc.specs.Nodes.{nodes_of}
use Rattle.hep_state.specs.Words.{IsGiven}
use Rattle.hep_state.proofs.opening.give_row.Given as goal

abbrev pub invariant-loop-at : goal.invariant-loop-at
invariant-loop-at l =
    record {
      given : IsGiven (record { first = l.row.first; count = l.at - l.row.first; value = l.row.value } ∷ []) l.initial.frames.arena l.frames.arena;
      nodes : nodes_of l.frames.nodes ≡ nodes_of l.initial.frames.nodes;
    }
