use Rattle.std.proofs.Common.{Some, subst, sym}
use Rattle.std.proofs.lemmas.Option.{none-some}
use Rattle.hep_explore.specs.Searching.{GoesOn, IsSearch, known_of}
use Rattle.hep_explore.specs.declared.search.Origin.{Origin}
use Rattle.hep_explore.proofs.SearchedStates.{full_goes_on, full_is_search}
use Rattle.hep_explore.proofs.search.Search.note_full.Goals as goal

pub returns-clause-search : goal.returns-clause-search
returns-clause-search c = λ program search step.
    let s = known_of c.args.self.now in
    subst (λ (o : Origin). IsSearch program (record s { full = Some o })) (sym c.unwrap_or.ensures) (
    full_is_search s c.args.origin program search step)

pub returns-clause-goes_on : goal.returns-clause-goes_on
returns-clause-goes_on c =
    let s = known_of c.args.self.now in
    subst (λ (o : Origin). GoesOn s (record s { full = Some o })) (sym c.unwrap_or.ensures) (full_goes_on s c.args.origin)

pub returns-clause-full : goal.returns-clause-full
returns-clause-full c = λ none. none-some c.unwrap_or.result (sym none)
