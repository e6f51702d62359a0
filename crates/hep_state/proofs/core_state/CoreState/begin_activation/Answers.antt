use Rattle.std.proofs.Common.{◌≡◌, ℕ, ◌+◌, ◌≤◌, true, List, length, Option, Some, if◌then◌else◌, refl, sym, ap, ◌∙◌, subst, arith, eq-eqb}
use Rattle.hep_machine.specs.Words.{Units, unit_at, Layout, common_cells, frame_of, is_held, lowest_gap, Activation, Bounds, State, scope_of, frame_cells}
use Rattle.hep_layout.specs.Words.{FrameNode, Nodes, is_stacked, new_node, with_node}
use Rattle.hep_image.specs.BoundActivations.{AreKept}
use Rattle.slab.specs.Slab.{ContainsKey}
use Rattle.hep_proc.specs.Nodes.{nodes_of}
use Rattle.hep_proc.proofs.Slabs.{some-value}
use Rattle.hep_step.specs.Shapes.{AreShapesOf}
use Rattle.hep_binding.specs.Calling.{ArePassed, CallOf, IsWritten, frames_with, layout_with, state_begun, unit_begun}
use Rattle.hep_binding.proofs.BegunActivations.{activation-is, long, unit-is}
use Rattle.hep_binding.proofs.Calls.{made-begun, made-stacks, made-store}
use Rattle.hep_binding.specs.AdjustableBounds.{AreShaping, cells_of_shapes, cells_to_bounds_of}
use Rattle.hep_binding.proofs.Nodes.{node-new}
use Rattle.hep_step.specs.declared.call_kind.CallKind.{CallKind}
use Rattle.hep_step.specs.NextCalls.{is_creation}
use Rattle.hep_proc.specs.declared.process.Local.{Local}
use Rattle.hep_state.specs.Words.{IsMaking, Makes, TurnOf, call_in, frames_before, node_under, snapshot_of, state_before, state_made, turn_of}
use Rattle.hep_state.proofs.SilentTurns.{kept-now, top-activation, top-node}
use Rattle.hep_state.proofs.BegunActivations.{IsBegunIn, begun-kept, passed-many, shapes-inside}
use Rattle.hep_state.proofs.Processes.{process-at, some-levels-at}
use Rattle.hep_state.proofs.core_state.CoreState.begin_activation.Goals.{After-begin-key}
use Rattle.hep_state.proofs.core_state.CoreState.begin_activation.Goals as goal

pub place-at-requires : goal.place-at-requires
place-at-requires c = record { numbers = c.requires.numbers; living = c.requires.making.6.making.levels }

-- ---- the caller or creator

pub top-parent-requires : goal.top-parent-requires
top-parent-requires c = some-levels-at (process-at c.args.self.now c.args.p c.requires.numbers c.place-at.ensures c.requires.making.6.making.levels.kept c.index.ensures)

pub begin-key-requires : goal.begin-key-requires
begin-key-requires c =
    let r = c.requires.making in
    let t = turn_of r.6.making in
    let e = r.6.making.holds in
    let s = state_before t in
    let m = t.machine in
    let slab = c.args.self.now.frames.nodes in
    let layout = e.turning.after.layout in
    let shows = e.turning.after.shows in
    let it = process-at c.args.self.now c.args.p c.requires.numbers c.place-at.ensures r.6.making.levels.kept c.index.ensures in
    let same = c.top-parent.ensures t.level t.below t.operands t.pending it.stack in
    let call = call_in t c.args.called.unit e.actuals e.binding in
    let many = passed-many r.1 s layout (scope_of r.1 s t.top.0.activation) e.actuals c.deref.result.now (subst (ArePassed call layout) (sym c.deref.ensures.value) e.passed) in
    record {
      room = c.requires.node;
      few = c.requires.few;
      many = omega (arith, many, e.passing.as_many, r.6.unit.cells_are);
      gap = c.requires.gap;
      there = subst (λ (l : Local). ContainsKey slab l.key) (sym same) (some-value slab t.level.key (node_under m.nodes t.level.key) (top-node e.turning));
      kept = kept-now e.turning;
      children = c.children_are_activations.ensures (frames_before t e.turning) m.arena m.nodes c.top-parent.result.key shows.keeps (omega (arith, c.requires.countable, shows.activations));
    }

-- ---- the frame with the cells of its dummy arguments written

module _ (c : After-begin-key) (way : CallKind) (program : Units) (cells : ℕ) (choices : List ℕ) (own index : ℕ) (makes : Makes way program cells choices c.args.p c.args.self.now c.args.called own index) where
  abbrev t : TurnOf
  t = turn_of makes.making

  abbrev e : IsMaking way t c.args.called.unit own index c.args.self.now.passing.given.items c.args.self.now.passing.shapes.items
  e = makes.making.holds

  abbrev s : State
  s = state_before t

  abbrev call : CallOf
  call = call_in t c.args.called.unit e.actuals e.binding

  abbrev later : State
  later = state_made e

  abbrev n : ℕ
  n = length later.activations

  abbrev layout : Layout
  layout = e.turning.after.layout

  parent : c.top-parent.result.key ≡ t.level.key
  parent =
      let it = process-at c.args.self.now c.args.p c.requires.numbers c.place-at.ensures makes.making.levels.kept c.index.ensures in
      ap (λ (l : Local). l.key) (c.top-parent.ensures t.level t.below t.operands t.pending it.stack)

  more : later.activations ≡ (state_begun call).activations
  more = made-begun (is_creation way) call

  number : c.args.self.now.activations + 1 ≡ n
  number = omega (arith, e.turning.after.shows.activations, long call later more)

  size : c.args.called.cells ≡ frame_of program later n
  size = makes.unit.cells_are ∙ ap (λ v. frame_cells (unit_at program v)) (sym (unit-is call later more))

  passed : ArePassed call layout c.deref.result.now
  passed = subst (ArePassed call layout) (sym c.deref.ensures.value) e.passed

  begun : IsBegunIn t e.turning later c.args.called.cells c.begin-key.result c.args.self.now.passing.shapes.items c.begin-key.new.frames.arena (nodes_of c.begin-key.new.frames.nodes)
  begun =
      let u = c.args.called.unit in
      let m = t.machine in
      let key = c.begin-key.result in
      let h = e.turning in
      let there = ap m.nodes parent ∙ top-node h in
      let written = c.begin-key.ensures.written call later layout (is_held s) (node_under m.nodes t.level.key) h.after.shows.keeps there (top-activation h) e.passing passed more (made-store (is_creation way) call) number refl size in
      let first = written.0 in
      let node = new_node (m.activations + 1) u first c.args.called.cells c.top-parent.result.key in
      let binding = c.dummies_are_bound.ensures.binding call later layout first (length m.arena.contents) c.deref.result.now e.passing passed more h.after.shows.keeps.memory.laid in
      record {
        first = first;
        node = node;
        fit = written.1;
        gap = written.2;
        written = written.3;
        there = ap (λ (z : Nodes). z key) (c.begin-key.ensures.nodes first written.1) ∙ node-new m.nodes key node c.top-parent.result.key;
        framed = record { frame = binding.frame; framed = binding.framed; begins = sym binding.begins; sized = size };
        shaping =
            record {
              distinct = binding.distinct;
              shapes_are = subst (λ (x : Activation). AreShapesOf (unit_at program x.unit) x.dummies c.args.self.now.passing.shapes.items) (sym (activation-is call later more)) e.shaped;
            };
      }

  -- its other cells are unset, up to the bounds of adjustable arrays
  unset : IsWritten (frames_before t e.turning) later begun.first (cells_to_bounds_of (unit_begun program later) 0) c.begin-key.new.frames.arena (nodes_of c.begin-key.new.frames.nodes)
  unset =
      c.other_cells_are_unset.ensures.made (is_creation way) call layout begun.first (is_held s) c.begin-key.new.frames.arena (nodes_of c.begin-key.new.frames.nodes) e.turning.lives e.made begun.written

  -- what its dummy arguments stand for is kept
  kept : AreKept program later (layout_with program later layout begun.first) n
  kept =
      let held = e.turning.after.shows in
      let on = made-stacks call e.turning.lives (is_creation way) n ∙ ap (λ b. if b then true else is_stacked s n) (eq-eqb n n refl) in
      c.references_are_kept.ensures (is_creation way) call layout begun.first (length c.args.self.now.frames.arena.contents) c.deref.result.now e.passing passed held.keeps.memory.laid held.kept n on

-- ---- the shapes

pub shape_all-requires : goal.shape_all-requires
shape_all-requires c =
    let r = c.requires.making in
    let frames = c.begin-key.new.frames in
    let key = c.begin-key.result in
    let b = begun (goal.at.shape_all-requires c).After-begin-key r.0 r.1 r.2 r.3 r.4 r.5 r.6 in
    record {
      few = omega (arith, c.requires.few, c.begin-key.ensures.cells);
      there = some-value frames.nodes key b.node b.there;
      kept = begun-kept b;
      many = subst (λ (xs : List (Option Bounds)). (n : FrameNode) → nodes_of frames.nodes key ≡ Some n → cells_of_shapes xs ≤ n.cells) (sym c.deref-2.ensures.value) (shapes-inside b);
    }

pub returns-clause-entered : goal.returns-clause-entered
returns-clause-entered c way program cells choices own index makes =
    let t = turn_of makes.making in
    let e = makes.making.holds in
    let u = c.args.called.unit in
    let s = state_before t in
    let later = state_made e in
    let n = length later.activations in
    let h = e.turning in
    let layout = h.after.layout in
    let before = (goal.at.returns-clause-entered c).After-begin-key in
    let b = begun before way program cells choices own index makes in
    let act = number before way program cells choices own index makes in
    let big = size before way program cells choices own index makes in
    let above = parent before way program cells choices own index makes in
    let shaping = subst (AreShaping program later n) (sym c.deref-2.ensures.value) b.shaping in
    record {
      made = e.made;
      inside = makes.unit.inside;
      first = b.first;
      gap = (λ i. lowest_gap (sym h.after.size i) (sym big i) (common_cells program) layout) ∙ b.gap;
      written =
          c.shape_all.ensures.shaped (frames_with (frames_before t h) later b.first) n b.node (unset before way program cells choices own index makes) b.there b.framed shaping;
      kept = kept before way program cells choices own index makes;
      size = c.shape_all.ensures.same.cells ∙ (c.begin-key.ensures.cells ∙ h.after.size);
      vacant = c.begin-key.ensures.vacant;
      nodes_are = c.shape_all.ensures.same.nodes ∙ (c.begin-key.ensures.nodes b.first b.fit ∙ (λ i. with_node (snapshot_of c.args.self.now).nodes c.begin-key.result (new_node (act i) u b.first (big i) (above i)) (above i)));
    }
