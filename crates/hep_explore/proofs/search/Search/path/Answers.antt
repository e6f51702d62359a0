use Rattle.std.proofs.Common.{◌≡◌, ◌∙◌, [], Some, ap, arith, get_or, reverse, slice_get, subst, sym}
use Rattle.std.proofs.lemmas.Option.{same_Some, slice_get-get_or}
use Rattle.hep_explore.specs.Searching.{IsPathTo, LeadOn, known_of}
use Rattle.hep_explore.specs.declared.search.Origin.{Origin}
use Rattle.hep_explore.proofs.Paths.{none_lead, origin_leads, path_of, reversed_more}
use Rattle.hep_explore.proofs.search.Search.path.Goals as goal

pub index-origin-requires : goal.index-origin-requires
index-origin-requires c = let origins = c.requires.search.1.origins in omega (arith, c.loop-at.invariant.found)

pub loop-at-init : goal.loop-at-init
loop-at-init c =
    let s = known_of c.args.self.now in
    record {
      found = c.requires.found;
      leads = λ program search key to from_is to_is.
          let same = same_Some key to (sym from_is ∙ to_is) in
          subst (λ k. LeadOn program s.cells key k (reverse c.new-choices.result.items)) same (
          subst (λ (ps : _). LeadOn program s.cells key key (reverse ps)) (sym c.new-choices.ensures.items) (
          none_lead program s s.cells key));
    }

pub loop-at-preserved : goal.loop-at-preserved
loop-at-preserved c =
    let s = known_of c.args.self.now in
    let at = c.loop-at.at in
    let o : Origin = c.index-origin.result.now in
    let origins = c.requires.search.1.origins in
    let there =
    slice_get-get_or s.origins at o (omega (arith, c.loop-at.invariant.found)) ∙ ap (λ x. Some x) (sym c.index-origin.ensures)
    in
    let some = c.loop-at-test.true in
    let earlier = (c.requires.search.1.origin at o (omega arith) there).earlier in
    record {
      found = omega (arith, c.loop-at.invariant.found);
      leads = λ program search key to from_is to_is.
          let origin = search.origin at o (omega arith) there in
          let same = same_Some origin.from key (sym origin.from_is ∙ from_is) in
          let lead = origin_leads program s at o to (reverse c.loop-at.choices.items) origin (
          c.loop-at.invariant.leads program search origin.to to origin.to_is to_is) in
          let order = ap reverse c.in_ok-append_turns.ensures ∙ reversed_more program s c.loop-at.choices.items o in
          subst (λ k. LeadOn program s.cells k to (reverse c.append_turns.new.choices.items)) same (
          subst (LeadOn program s.cells origin.from to) (sym order) lead);
    }

pub loop-at-smaller : goal.loop-at-smaller
loop-at-smaller c =
    let s = known_of c.args.self.now in
    let at = c.loop-at.at in
    let o : Origin = c.index-origin.result.now in
    let origins = c.requires.search.1.origins in
    let there =
    slice_get-get_or s.origins at o (omega (arith, c.loop-at.invariant.found)) ∙ ap (λ x. Some x) (sym c.index-origin.ensures)
    in
    let some = c.loop-at-test.true in
    (c.requires.search.1.origin at o (omega arith) there).earlier

pub returns : goal.returns
returns c = λ program search.
    let s = known_of c.args.self.now in
    let to = get_or s.states c.args.state [] in
    let to_is = slice_get-get_or s.states c.args.state [] c.requires.found in
    let zero : c.loop-at.at ≡ 0 = omega (arith, c.loop-at-test.false) in
    let lead = c.loop-at.invariant.leads program search search.opening to (ap (slice_get s.states) zero ∙ search.opening_is) to_is in
    subst (λ ps. IsPathTo program s c.args.state ps) (sym c.reverse.ensures.items) (
    path_of program s search c.args.state to (reverse c.loop-at.choices.items) to_is lead)
