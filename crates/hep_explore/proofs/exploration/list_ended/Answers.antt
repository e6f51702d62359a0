use Rattle.std.proofs.Common.{◌∙◌, ap, arith, get_or, slice_get, sym}
use Rattle.std.proofs.lemmas.Option.{slice_get-get_or}
use Rattle.hep_explore.specs.Searching.{known_of}
use Rattle.hep_explore.proofs.ListedOutcomes.{all_more}
use Rattle.hep_explore.proofs.exploration.list_ended.Goals as goal

pub loop-state-init : goal.loop-state-init
loop-state-init c = record { outcomes = c.requires.outcomes; listed = λ k i less at. absurd (omega arith) }

pub path-requires : goal.path-requires
path-requires c =
    let s = known_of c.args.search.now in
    let items = c.ended-state-items.result.now in
    let at = c.loop-state.state-index in
    let state = get_or items at 0 in
    let there =
    ap (λ es. slice_get es at) (sym c.ended-state-items.ensures) ∙ slice_get-get_or items at 0 c.loop-state-test.true
    in
    let counted = c.requires.search.counted in
    let less = c.requires.expanded.ended state (at, there) in
    record { search = (c.args.image.now, c.requires.search); found = omega arith }

pub list_by-requires-clause-made : goal.list_by-requires-clause-made
list_by-requires-clause-made c = (c.in_ok-choices.ensures c.args.image.now c.requires.search).made

pub loop-state-preserved : goal.loop-state-preserved
loop-state-preserved c =
    let program = c.args.image.now in
    let s = known_of c.args.search.now in
    let items = c.ended-state-items.result.now in
    let at = c.loop-state.state-index in
    let state = get_or items at 0 in
    let there =
    ap (λ es. slice_get es at) (sym c.ended-state-items.ensures) ∙ slice_get-get_or items at 0 c.loop-state-test.true
    in
    let is = c.in_ok-list_by.ensures in
    record {
      outcomes = is.outcomes;
      listed = all_more program c.args.cells s at state c.loop-state.found.items c.list_by.new.found.items is.kept
          c.loop-state.invariant.listed there c.in_ok-choices.choices.items (c.in_ok-choices.ensures program c.requires.search) is.listed;
    }
