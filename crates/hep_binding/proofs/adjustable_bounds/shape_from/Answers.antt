use Rattle.std.proofs.Common.{◌≡◌, ◌<◌, ℕ, List, Option, length, get_or, ◌∙◌, Some, refl, sym, ap, subst, arith, slice_get}
use Rattle.std.proofs.lemmas.Option.{slice_get-get_or}
use Rattle.hep_machine.specs.Words.{Bounds}
use Rattle.hep_arena.specs.Holes.{IsOut}
use Rattle.hep_proc.specs.Nodes.{nodes_of}
use Rattle.hep_binding.proofs.ShapedDummies.{all-shaped-ends, all-shaped-next, cells-below, cells-next, cells-within}
use Rattle.hep_binding.proofs.adjustable_bounds.shape_from.Goals as goal

-- the item at an index
there : (shapes : List (Option Bounds)) (j : ℕ) (o : Option Bounds) → j < length shapes → o ≡ get_or shapes j o → slice_get shapes j ≡ Some o
there shapes j o less is = slice_get-get_or shapes j o less ∙ ap (λ z. Some z) (sym is)

pub loop-one-init : goal.loop-one-init
loop-one-init c = record { left = refl; behind = omega arith; cells = refl; holes = refl; nodes = refl; shaped = λ f a frame kept framed begins h. (begins, kept) }

pub shape_one-next-requires : goal.shape_one-next-requires
shape_one-next-requires c =
    let here = there c.args.shapes.now c.loop-one.one-index _ c.loop-one-test.true c.one-item.is in
    let h = c.loop-one.invariant in
    record {
      few = omega (arith, c.requires.few, h.cells);
      inside = cells-within c.args.shapes.now c.loop-one.one-index c.loop-one.next _ _ _ here h.left (omega (arith, c.requires.inside, h.cells));
      out = λ p low high.
          subst (IsOut p) (sym h.holes) (
          c.requires.out p (omega (arith, low, h.behind)) (cells-below c.args.shapes.now c.loop-one.one-index c.loop-one.next _ p _ here h.left high));
    }

pub loop-one-preserved : goal.loop-one-preserved
loop-one-preserved c = record {
  left = cells-next c.args.shapes.now c.loop-one.one-index c.loop-one.next _ _ _ (there c.args.shapes.now c.loop-one.one-index _ c.loop-one-test.true c.one-item.is) c.loop-one.invariant.left c.shape_one-next.ensures.next;
  behind = omega (arith, c.loop-one.invariant.behind, c.shape_one-next.ensures.next);
  cells = c.shape_one-next.ensures.same.cells ∙ c.loop-one.invariant.cells;
  holes = c.shape_one-next.ensures.same.holes ∙ c.loop-one.invariant.holes;
  nodes = c.shape_one-next.ensures.same.nodes ∙ c.loop-one.invariant.nodes;
  shaped = all-shaped-next c.args.at c.args.shapes.now c.args.frames.now.arena (nodes_of c.args.frames.now.nodes) c.loop-one.one-index c.loop-one.next _ _ c.loop-one.frames.arena c.shape_one-next.new.frames.arena (nodes_of c.loop-one.frames.nodes) (nodes_of c.shape_one-next.new.frames.nodes) (there c.args.shapes.now c.loop-one.one-index _ c.loop-one-test.true c.one-item.is) c.shape_one-next.ensures.next c.shape_one-next.ensures.none c.shape_one-next.ensures.shaped c.shape_one-next.ensures.same.nodes c.loop-one.invariant.shaped;
}

pub returns-clause-shaped : goal.returns-clause-shaped
returns-clause-shaped c =
    all-shaped-ends c.args.at c.args.shapes.now c.args.frames.now.arena (nodes_of c.args.frames.now.nodes) c.loop-one.one-index c.loop-one.next c.loop-one.frames.arena (nodes_of c.loop-one.frames.nodes) (omega (arith, c.loop-one-test.false, c.loop-one.auto.one-index-end)) c.loop-one.invariant.shaped
