use Rattle.std.proofs.Common.{ap, subst}
use Rattle.std.specs.Option.{unwrap_or}
use Rattle.hep_machine.specs.Words.{State, IsSameOrOneMore}
use Rattle.hep_races.proofs.PlacesTold.{place-kept, there-kept}
use Rattle.hep_races.proofs.place_laws.places_stay.Goals as goal

pub returns-clause-there : goal.returns-clause-there
returns-clause-there c program p s t at e h =
    let more = subst (λ (u : State). IsSameOrOneMore s.activations u.activations) (ap (λ o. unwrap_or o s) e)
    (c.numbers_rise.ensures.activations program p s) in
    there-kept program s t more at h

pub returns-clause-place : goal.returns-clause-place
returns-clause-place c program p s t at e h =
    let more = subst (λ (u : State). IsSameOrOneMore s.activations u.activations) (ap (λ o. unwrap_or o s) e)
    (c.numbers_rise.ensures.activations program p s) in
    place-kept program s t more at h
