use Rattle.std.proofs.Common.{◌+◌, ◌∙◌, refl, sym, subst, arith}
use Rattle.hep_arena.specs.Holes.{IsOut}
use Rattle.hep_proc.specs.Nodes.{nodes_of}
use Rattle.hep_binding.proofs.Dummies.{bound-begins, bound-ends, bound-next}
use Rattle.hep_binding.proofs.binding.bind.Goals as goal

pub loop-one-init : goal.loop-one-init
loop-one-init c = record { at = omega arith; cells = refl; holes = refl; nodes = refl; bound = bound-begins c.args.first c.args.given.now c.args.frames.now.arena (nodes_of c.args.frames.now.nodes) }

pub put-requires-clause-first : goal.put-requires-clause-first
put-requires-clause-first c =
    subst (IsOut c.loop-one.at) (sym c.loop-one.invariant.holes) (c.requires.out c.loop-one.at (omega (arith, c.loop-one.invariant.at)) (omega (arith, c.loop-one.invariant.at, c.loop-one-test.true)))

pub put-requires-clause-second : goal.put-requires-clause-second
put-requires-clause-second c =
    subst (IsOut (c.loop-one.at + 1)) (sym c.loop-one.invariant.holes) (c.requires.out (c.loop-one.at + 1) (omega (arith, c.loop-one.invariant.at)) (omega (arith, c.loop-one.invariant.at, c.loop-one-test.true)))

pub loop-one-preserved : goal.loop-one-preserved
loop-one-preserved c = record {
  at = omega (arith, c.loop-one.invariant.at);
  cells = c.put.ensures.same.cells ∙ c.loop-one.invariant.cells;
  holes = c.put.ensures.same.holes ∙ c.loop-one.invariant.holes;
  nodes = c.put.ensures.same.nodes ∙ c.loop-one.invariant.nodes;
  bound = bound-next c.args.first c.args.given.now c.args.frames.now.arena (nodes_of c.args.frames.now.nodes) c.loop-one.one-index c.loop-one.at _ c.loop-one.frames.arena c.put.new.frames.arena (nodes_of c.loop-one.frames.nodes) (nodes_of c.put.new.frames.nodes) c.loop-one-test.true c.loop-one.invariant.at c.put.ensures.put c.put.ensures.same.nodes c.loop-one.invariant.bound;
}

pub returns-clause-bound : goal.returns-clause-bound
returns-clause-bound c =
    bound-ends c.args.first c.args.given.now c.args.frames.now.arena (nodes_of c.args.frames.now.nodes) c.loop-one.one-index c.loop-one.frames.arena (nodes_of c.loop-one.frames.nodes) (omega (arith, c.loop-one-test.false, c.loop-one.auto.one-index-end)) c.loop-one.invariant.bound
