use Rattle.hep_views.proofs.StateViews.{has-dummies}
use Rattle.hep_state_text.proofs.laws.dummies_are_those_of_units.Goals as goal

pub returns : goal.returns
returns c program choices a accepted main made few =
    has-dummies program choices a accepted (c.programs_are_closed.ensures.main program main) (c.calls_agree_in_runs.ensures program accepted)
    (c.units_are_there.ensures program choices a accepted main made few) (c.activations_are_bound_in_runs.ensures program choices a accepted main made few) (made, few)
