use Rattle.std.proofs.Common.{◌∙◌, ◌<◌, ℕ, Option, Some, refl, sym, ap, length, arith}
use Rattle.std.proofs.lemmas.Option.{slice_get_read}
use Rattle.hep_why.proofs.CycleWalks.{next-within, noted-none, walking-met, walking-on}
use Rattle.hep_why.proofs.wait_cycles.walk.Goals as goal

pub returns-in_err-next-clause-visited : goal.returns-in_err-next-clause-visited
returns-in_err-next-clause-visited c = λ noted before so.
    c.loop.invariant.visited noted before (noted-none c.args.nexts.now noted c.loop.at (sym c.next_at.ensures ∙ c.in_err-next.was))

pub returns-in_err-next-clause-begun : goal.returns-in_err-next-clause-begun
returns-in_err-next-clause-begun c = λ noted before so.
    c.loop.invariant.begun noted before (noted-none c.args.nexts.now noted c.loop.at (sym c.next_at.ensures ∙ c.in_err-next.was))

pub index-requires : goal.index-requires
index-requires c =
    omega (arith, next-within c.args.nexts.now c.loop.at c.in_ok-next.next (sym c.next_at.ensures ∙ c.in_ok-next.was), c.loop.invariant.room)

pub returns-in-Some-clause-visited : goal.returns-in-Some-clause-visited
returns-in-Some-clause-visited c = λ noted before so.
    let less : c.loop.at < length c.loop.visits.items =
    omega (
      arith,
      next-within c.args.nexts.now c.loop.at c.in_ok-next.next (sym c.next_at.ensures ∙ c.in_ok-next.was),
      c.loop.invariant.room,
    ) in
    let there = slice_get_read c.loop.visits.items (length c.loop.visits.items) c.loop.at c.index.result.now refl less c.index.ensures
    ∙ ap (λ (o : Option ℕ). Some o) c.in-Some.is in
    c.loop.invariant.visited noted before
    (walking-met c.args.nexts.now c.args.visits.now.items c.loop.visits.items c.args.first c.loop.at c.in-Some.walk noted c.loop.invariant there c.if-walk-first.false before)

pub returns-in-Some-clause-begun : goal.returns-in-Some-clause-begun
returns-in-Some-clause-begun c = λ noted before so.
    let less : c.loop.at < length c.loop.visits.items =
    omega (
      arith,
      next-within c.args.nexts.now c.loop.at c.in_ok-next.next (sym c.next_at.ensures ∙ c.in_ok-next.was),
      c.loop.invariant.room,
    ) in
    let there = slice_get_read c.loop.visits.items (length c.loop.visits.items) c.loop.at c.index.result.now refl less c.index.ensures
    ∙ ap (λ (o : Option ℕ). Some o) c.in-Some.is in
    c.loop.invariant.begun noted before
    (walking-met c.args.nexts.now c.args.visits.now.items c.loop.visits.items c.args.first c.loop.at c.in-Some.walk noted c.loop.invariant there c.if-walk-first.false before)

pub index_mut-requires : goal.index_mut-requires
index_mut-requires c =
    omega (arith, next-within c.args.nexts.now c.loop.at c.in_ok-next.next (sym c.next_at.ensures ∙ c.in_ok-next.was), c.loop.invariant.room)

pub loop-preserved : goal.loop-preserved
loop-preserved c =
    let e = sym c.next_at.ensures ∙ c.in_ok-next.was in
    let less : c.loop.at < length c.loop.visits.items =
    omega (arith, next-within c.args.nexts.now c.loop.at c.in_ok-next.next e, c.loop.invariant.room) in
    walking-on c.args.nexts.now c.args.visits.now.items c.loop.visits.items c.args.first c.loop.at c.in_ok-next.next c.loop.invariant e less
