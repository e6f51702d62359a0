use Rattle.std.proofs.Common.{◌+◌, ◌∙◌, refl, sym, subst, arith}
use Rattle.hep_arena.specs.Holes.{IsOut}
use Rattle.hep_proc.specs.Nodes.{nodes_of}
use Rattle.hep_binding.proofs.ShapedDummies.{shaped-begins, shaped-ends, shaped-next}
use Rattle.hep_binding.proofs.adjustable_bounds.shape.Goals as goal

pub loop-bound-init : goal.loop-bound-init
loop-bound-init c = record { at = omega arith; cells = refl; holes = refl; nodes = refl; shaped = shaped-begins c.args.at c.args.bounds.now c.args.frames.now.arena (nodes_of c.args.frames.now.nodes) }

pub put_bound-requires-clause-first : goal.put_bound-requires-clause-first
put_bound-requires-clause-first c =
    subst (IsOut c.loop-bound.next) (sym c.loop-bound.invariant.holes) (c.requires.out c.loop-bound.next (omega (arith, c.loop-bound.invariant.at)) (omega (arith, c.loop-bound.invariant.at, c.loop-bound-test.true)))

pub put_bound-requires-clause-second : goal.put_bound-requires-clause-second
put_bound-requires-clause-second c =
    subst (IsOut (c.loop-bound.next + 1)) (sym c.loop-bound.invariant.holes) (c.requires.out (c.loop-bound.next + 1) (omega (arith, c.loop-bound.invariant.at)) (omega (arith, c.loop-bound.invariant.at, c.loop-bound-test.true)))

pub loop-bound-preserved : goal.loop-bound-preserved
loop-bound-preserved c = record {
  at = omega (arith, c.loop-bound.invariant.at);
  cells = c.put_bound.ensures.same.cells ∙ c.loop-bound.invariant.cells;
  holes = c.put_bound.ensures.same.holes ∙ c.loop-bound.invariant.holes;
  nodes = c.put_bound.ensures.same.nodes ∙ c.loop-bound.invariant.nodes;
  shaped = shaped-next c.args.at c.args.bounds.now c.args.frames.now.arena (nodes_of c.args.frames.now.nodes) c.loop-bound.bound-index c.loop-bound.next _ c.loop-bound.frames.arena c.put_bound.new.frames.arena (nodes_of c.loop-bound.frames.nodes) (nodes_of c.put_bound.new.frames.nodes) c.loop-bound-test.true c.loop-bound.invariant.at c.put_bound.ensures.put c.put_bound.ensures.same.nodes c.loop-bound.invariant.shaped;
}

pub returns-clause-shaped : goal.returns-clause-shaped
returns-clause-shaped c =
    shaped-ends c.args.at c.args.bounds.now c.args.frames.now.arena (nodes_of c.args.frames.now.nodes) c.loop-bound.bound-index c.loop-bound.frames.arena (nodes_of c.loop-bound.frames.nodes) (omega (arith, c.loop-bound-test.false, c.loop-bound.auto.bound-index-end)) c.loop-bound.invariant.shaped
