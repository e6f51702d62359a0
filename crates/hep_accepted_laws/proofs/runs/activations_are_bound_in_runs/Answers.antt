use Rattle.hep_accepted_laws.proofs.runs.activations_are_bound_in_runs.Goals as goal

pub returns : goal.returns
returns c program processes a accepted has one le =
    c.activations_are_bound.ensures program processes a (c.programs_are_closed.ensures.closed program accepted) (c.programs_are_closed.ensures.main program has) (c.calls_agree_in_runs.ensures program accepted) one le
