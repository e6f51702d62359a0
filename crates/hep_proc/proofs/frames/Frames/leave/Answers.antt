use Rattle.std.proofs.Common.{◌≡◌, ◌⊎◌, inl, inr, ◌≤◌, None, false, refl, sym, ◌∙◌, subst, arith}
use Rattle.hep_layout.specs.Words.{but, with_ended, is_stacked}
use Rattle.hep_proc.specs.declared.frames.Frames.{Frames}
use Rattle.hep_proc.specs.FrameTable.{as_wanted, frames_in, HasLeft}
use Rattle.hep_proc.specs.Nodes.{nodes_of, shown}
use Rattle.hep_proc.proofs.ReturnedFrames.{IsGiving, giving-begins, giving-block, giving-counted, giving-ends, giving-goes_on, giving-inside, giving-stops, giving-there, off_stack}
use Rattle.hep_proc.proofs.Slabs.{node-there, one-tree, shown-at, value-there}
use Rattle.hep_proc.proofs.UnchangedFrames.{ended-left}
use Rattle.hep_proc.proofs.frames.Frames.leave.Goals as goal
use Rattle.hep_proc.proofs.frames.Frames.leave.Goals.{then-not-node-via-then-not-node, then-not-node-via-else-not-node+then-node-gt0}

pub loop-next-init : goal.loop-next-init
loop-next-init c = (
  (λ f n h at.
      giving-begins f c.args.self.now.arena (nodes_of c.args.self.now.nodes) (nodes_of c.end.new.nodes) c.args.key n h at (one-tree (nodes_of c.end.new.nodes) (with_ended (nodes_of c.args.self.now.nodes) c.args.key) c.end.ensures.ended)),
  refl,
)

pub index-node-requires : goal.index-node-requires
index-node-requires c =
    let f = c.requires.kept in
    let n = node-there c.args.self.now.nodes c.args.key c.requires.there in
    value-there c.loop-next.self.nodes c.in-Some.at (giving-there (off_stack f.0 n.0.activation) c.args.self.now.arena (nodes_of c.args.self.now.nodes) c.loop-next.self.arena (nodes_of c.loop-next.self.nodes) c.loop-next.next c.in-Some.at c.in-Some.is (c.loop-next.invariant.0 f.0 n.0 f.1 n.1))

pub give-next-requires : goal.give-next-requires
give-next-requires c =
    let f = c.requires.kept in
    let n = node-there c.args.self.now.nodes c.args.key c.requires.there in
    let left = off_stack f.0 n.0.activation in
    let before = c.args.self.now.arena in
    let old = nodes_of c.args.self.now.nodes in
    let arena = c.loop-next.self.arena in
    let nodes = nodes_of c.loop-next.self.nodes in
    let giving = c.loop-next.invariant.0 f.0 n.0 f.1 n.1 in
    record {
      there = value-there c.loop-next.self.nodes c.in-Some.at (giving-there left before old arena nodes c.loop-next.next c.in-Some.at c.in-Some.is giving);
      inside = λ m. giving-inside left before old arena nodes c.loop-next.next c.in-Some.at m c.in-Some.is giving;
      out = λ m p at. giving-block left before old arena nodes c.loop-next.next c.in-Some.at m c.in-Some.is giving at p;
      counted =
          giving-counted left before old arena nodes c.loop-next.next c.in-Some.at (shown c.index-node.result.now) c.in-Some.is giving
          (shown-at c.loop-next.self.nodes c.in-Some.at c.index-node.result.now c.index-node.ensures) (omega (arith, c.if-node-gt0.false));
    }

pub loop-next-preserved : goal.loop-next-preserved
loop-next-preserved c = (
  (λ f n h at.
      let old = nodes_of c.args.self.now.nodes in
      let nodes = nodes_of c.loop-next.self.nodes in
      let m = shown c.index-node.result.now in
      let here = shown-at c.loop-next.self.nodes c.in-Some.at c.index-node.result.now c.index-node.ensures in
      subst (IsGiving (off_stack f n.activation) c.args.self.now.arena old c.give-next.new.self.arena (nodes_of c.give-next.new.self.nodes)) (sym (c.give-next.ensures.parent m here)) (
      giving-goes_on (off_stack f n.activation) c.args.self.now.arena old c.loop-next.self.arena nodes c.loop-next.next c.in-Some.at m c.in-Some.is (c.loop-next.invariant.0 f n h at) here c.give-next.new.self.arena (nodes_of c.give-next.new.self.nodes)
      h.memory.laid.single c.if-not-node.false (omega (arith, c.if-node-gt0.false)) ((c.give-next.ensures.back m here).holes) (c.give-next.ensures.back m here).kept c.give-next.ensures.cells
      (one-tree _ _ (c.give-next.ensures.nodes m here)))),
  c.give-next.ensures.cells ∙ c.loop-next.invariant.1,
)

pub returns-then-not-node-clause-left : goal.returns-then-not-node-clause-left
returns-then-not-node-clause-left c f n h at lead =
    let old = nodes_of c.args.self.now.nodes in
    let nodes = nodes_of c.loop-next.self.nodes in
    let m = shown c.index-node.result.now in
    let here = shown-at c.loop-next.self.nodes c.in-Some.at c.index-node.result.now c.index-node.ensures in
    let left : (m.finished ≡ false) ⊎ (1 ≤ m.children) → HasLeft (off_stack f n.activation) c.args.self.now.arena c.loop-next.self.arena old nodes =
    λ why. giving-ends (off_stack f n.activation) c.args.self.now.arena old c.loop-next.self.arena nodes None refl (
    giving-stops (off_stack (as_wanted f) n.activation) c.args.self.now.arena old c.loop-next.self.arena nodes c.loop-next.next c.in-Some.at m c.in-Some.is (c.loop-next.invariant.0 (as_wanted f) n h at) here why) lead in
    elim c.then-not-node.branch [
      | then-not-node-via-then-not-node w ↦ subst (λ (z : Frames). HasLeft (off_stack f n.activation) c.args.self.now.arena z.arena old (nodes_of z.nodes)) (sym w.self-is) (left (inl w.if-not-node.true))
      | then-not-node-via-else-not-node+then-node-gt0 w ↦ subst (λ (z : Frames). HasLeft (off_stack f n.activation) c.args.self.now.arena z.arena old (nodes_of z.nodes)) (sym w.self-is) (left (inr (omega (arith, w.if-node-gt0.true))))
    ]

pub returns-clause-left : goal.returns-clause-left
returns-clause-left c f n h at =
    giving-ends (off_stack f n.activation) c.args.self.now.arena (nodes_of c.args.self.now.nodes) c.loop-next.self.arena (nodes_of c.loop-next.self.nodes) c.loop-next.next c.in_default.is
    (c.loop-next.invariant.0 (as_wanted f) n h at)

pub returns-then-not-node-clause-ended : goal.returns-then-not-node-clause-ended
returns-then-not-node-clause-ended c program s t out layout n h at =
    ended-left program s t (but n.activation (is_stacked s)) out layout c.args.self.now.arena c.then-not-node.self.arena (nodes_of c.args.self.now.nodes) (nodes_of c.then-not-node.self.nodes)
    (λ k lead. returns-then-not-node-clause-left c (record (frames_in program t out layout) { on = is_stacked s }) n k at lead) h

pub returns-clause-ended : goal.returns-clause-ended
returns-clause-ended c program s t out layout n h at =
    ended-left program s t (but n.activation (is_stacked s)) out layout c.args.self.now.arena c.loop-next.self.arena (nodes_of c.args.self.now.nodes) (nodes_of c.loop-next.self.nodes)
    (λ k lead. returns-clause-left c (record (frames_in program t out layout) { on = is_stacked s }) n k at lead) h
