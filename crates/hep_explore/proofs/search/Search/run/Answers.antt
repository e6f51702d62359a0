use Rattle.std.proofs.Common.{◌≡◌, ◌+◌, ◌∙◌, arith, subst, sym}
use Rattle.hep_explore.specs.Searching.{AreExpanded, known_of}
use Rattle.hep_explore.proofs.SearchedStates.{expanded_on}
use Rattle.hep_explore.proofs.search.Search.run.Goals as goal

pub next-requires : goal.next-requires
next-requires g c = (c.args.image.now, c.loop-self.invariant.search)

pub expand-requires : goal.expand-requires
expand-requires g c =
    let program = c.args.image.now in
    let s = known_of c.loop-self.self in
    let new = known_of c.next.new.self in
    let counted = c.loop-self.invariant.search.counted in
    let still = expanded_on program s new c.next.ensures.goes_on s.expanded (omega arith) c.loop-self.invariant.expanded in
    record {
      search = c.in-Some.ensures.search program c.loop-self.invariant.search;
      expanded = subst (λ n. AreExpanded program n new) (sym c.in-Some.ensures.counted.0) still;
      numbered = c.in-Some.ensures.numbered program c.loop-self.invariant.search;
    }

pub loop-self-preserved : goal.loop-self-preserved
loop-self-preserved g c =
    let program = c.args.image.now in
    let new = known_of c.expand.new.self in
    let one = c.in-Some.ensures.counted in
    let kept = c.in_ok-expand.ensures.same.0 in
    let count : c.in-Some.from + 1 ≡ new.expanded = omega (arith, one.0, one.1, c.in_ok-expand.ensures.same.1) in
    record {
      search = c.in_ok-expand.ensures.search;
      expanded = subst (λ n. AreExpanded program n new) count c.in_ok-expand.ensures.expanded;
      same = (
        kept.cells ∙ (c.next.ensures.goes_on.kept.cells ∙ c.loop-self.invariant.same.0),
        kept.most ∙ (c.next.ensures.goes_on.kept.most ∙ c.loop-self.invariant.same.1),
      );
    }
