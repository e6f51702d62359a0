use Rattle.std.proofs.Common.{◌≡◌, true, is_some}
use Rattle.hep_machine.specs.Words.{Units, main_among}
use Rattle.hep_conditions.specs.Words.{IsAccepted}
use Rattle.hep_state.proofs.TopActivations.{IsKnown, arrays-placed, top-runs}
use Rattle.hep_state.proofs.laws.tops_are_running.Goals as goal

-- what the laws called say of a program
known : goal.After-activations_are_bound_in_runs → (program : Units) → IsAccepted program → is_some (main_among program) ≡ true → IsKnown program
known c program accepted main =
    record {
      placed = λ u i line o inside e. c.variables_of_the_code_are_placed.ensures.operations program u i line o accepted inside e;
      begun = λ u i x inside e. c.arrays_are_there.ensures.unit program u i x accepted inside e;
      closed = c.programs_are_closed.ensures.closed program accepted;
      bound = λ choices a one made. c.activations_are_bound_in_runs.ensures program choices a accepted main one made;
    }

pub returns-clause-running : goal.returns-clause-running
returns-clause-running c t accepted main turning = top-runs turning (known c t.program accepted main)

pub returns-clause-arrays : goal.returns-clause-arrays
returns-clause-arrays c t accepted main turning = arrays-placed turning (known c t.program accepted main)
