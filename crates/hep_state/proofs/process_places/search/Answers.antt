use Rattle.std.proofs.Common.{◌≡◌, IfNone, IfSome, false, rules, subst, sym}
use Rattle.std.proofs.lemmas.List.Sorted.{answers_always}
use Rattle.hep_machine.specs.Words.{is_number_among}
use Rattle.hep_state.specs.Words.{IsPlaceOf, numbers_of}
use Rattle.hep_state.proofs.Searching.{searched-found, searched-none}
use Rattle.hep_state.proofs.process_places.search.Goals as goal

pub returns-clause-found : goal.returns-clause-found
returns-clause-found c =
    let qs = c.args.processes.now in
    let r = c.requires.rising in
    let facts = c.binary_search_by_key.ensures in
    let by_number = facts.position (λ q. q.number) (answers_always _ _ _ (λ f a r g called. search rules)) in
    subst (λ o. IfSome o (IsPlaceOf qs c.args.p)) (sym c.ok.ensures.value) (searched-found qs r.0 c.args.p r.1 c.binary_search_by_key.result facts.bound by_number)

pub returns-clause-none : goal.returns-clause-none
returns-clause-none c =
    let qs = c.args.processes.now in
    let r = c.requires.rising in
    let facts = c.binary_search_by_key.ensures in
    let by_number = facts.position (λ q. q.number) (answers_always _ _ _ (λ f a r g called. search rules)) in
    subst (λ o. IfNone o (is_number_among c.args.p (numbers_of qs) ≡ false)) (sym c.ok.ensures.value) (searched-none qs r.0 c.args.p r.1 c.binary_search_by_key.result facts.bound by_number)
