use Rattle.std.proofs.Common.{◌≡◌, true, false, ◌++◌, drop}
use Rattle.hep_machine.specs.Words.{are_dimensions}
use Rattle.hep_state_text.specs.Subscripts.{subscripts_text}
use Rattle.hep_state_text.proofs.subscripts.append_subscripts.Given as goal

abbrev pub invariant-loop-bound : goal.invariant-loop-bound
invariant-loop-bound l =
    record {
      dimensions : are_dimensions (drop l.bound-index l.bounds) ≡ true;
      so_far : l.text.items ++ subscripts_text l.follows (drop l.bound-index l.bounds) l.rest ≡ l.initial.text.items ++ subscripts_text false l.bounds l.number;
    }
