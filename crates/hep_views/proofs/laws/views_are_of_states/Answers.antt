use Rattle.hep_views.proofs.StateViews.{has-dummies, view-of-many}
use Rattle.hep_views.proofs.laws.views_are_of_states.Goals as goal

pub returns : goal.returns
returns c program cells choices m accepted main after =
    view-of-many program cells choices m after (λ a held.
    let made = after.shows.keeps.tree.made a held in
    has-dummies program choices a accepted (c.programs_are_closed.ensures.main program main) (c.calls_agree_in_runs.ensures program accepted)
    (c.units_are_there.ensures program choices a accepted main made.0 made.1) (c.activations_are_bound_in_runs.ensures program choices a accepted main made.0 made.1) made)
    (λ p. c.waits_are_seen.ensures program cells choices m p accepted main after)
