use Rattle.std.proofs.Common.{◌∙◌, ◌+◌, ◌<◌, length, drop, get_or, refl, subst, arith}
use Rattle.std.proofs.lemmas.List.{drop_all}
use Rattle.hep_layout.specs.Words.{is_stacked}
use Rattle.hep_proc.specs.FrameTable.{all_but, frames_in, frames_left}
use Rattle.hep_proc.specs.Nodes.{nodes_of}
use Rattle.hep_proc.proofs.SeveralFrames.{AreLeaving, leaving-begins, leaving-ends, leaving-goes_on, leaving-next, next-key}
use Rattle.hep_proc.proofs.Slabs.{some-value}
use Rattle.hep_proc.proofs.UnchangedFrames.{ended-left}
use Rattle.hep_proc.proofs.frames.Frames.leave_all.Goals as goal

pub loop-key-init : goal.loop-key-init
loop-key-init c =
    ((λ f ends h can lead. leaving-begins f ends c.args.self.now.arena (nodes_of c.args.self.now.nodes) c.args.keys.now h can), refl)

pub leave-requires-clause-there : goal.leave-requires-clause-there
leave-requires-clause-there c =
    let f = c.requires in
    let k = get_or c.args.keys.now c.loop-key.key-index 0 in
    let ks = drop (c.loop-key.key-index + 1) c.args.keys.now in
    let below : c.loop-key.key-index < length c.args.keys.now = omega arith in
    let old = nodes_of c.args.self.now.nodes in
    let nodes = nodes_of c.loop-key.self.nodes in
    let g = subst (AreLeaving f.0 f.1 c.args.self.now.arena old c.loop-key.self.arena nodes) (next-key c.args.keys.now c.loop-key.key-index below) (c.loop-key.invariant.0 f.0 f.1 f.2 f.3 f.4) in
    let next = leaving-next f.0 f.1 c.args.self.now.arena old c.loop-key.self.arena nodes k ks g in
    some-value c.loop-key.self.nodes k next.node next.there

pub leave-requires-clause-kept : goal.leave-requires-clause-kept
leave-requires-clause-kept c =
    let f = c.requires in
    let g = c.loop-key.invariant.0 f.0 f.1 f.2 f.3 f.4 in
    (frames_left (record f.0 { on = g.on_now }) g.left.still, g.left.keeps)

pub loop-key-preserved : goal.loop-key-preserved
loop-key-preserved c = (
  (λ f ends h can lead.
      let k = get_or c.args.keys.now c.loop-key.key-index 0 in
      let ks = drop (c.loop-key.key-index + 1) c.args.keys.now in
      let below : c.loop-key.key-index < length c.args.keys.now = omega arith in
      let old = nodes_of c.args.self.now.nodes in
      let nodes = nodes_of c.loop-key.self.nodes in
      let g = subst (AreLeaving f ends c.args.self.now.arena old c.loop-key.self.arena nodes) (next-key c.args.keys.now c.loop-key.key-index below) (c.loop-key.invariant.0 f ends h can lead) in
      let next = leaving-next f ends c.args.self.now.arena old c.loop-key.self.arena nodes k ks g in
      leaving-goes_on f ends c.args.self.now.arena old c.loop-key.self.arena nodes c.leave.new.self.arena (nodes_of c.leave.new.self.nodes) k ks g next (
      c.leave.ensures.left (frames_left (record f { on = g.on_now }) g.left.still) next.node g.left.keeps next.there lead)),
  c.leave.ensures.cells ∙ c.loop-key.invariant.1,
)

pub returns-clause-left : goal.returns-clause-left
returns-clause-left c f ends h can lead =
    let old = nodes_of c.args.self.now.nodes in
    let nodes = nodes_of c.loop-key.self.nodes in
    leaving-ends f ends c.args.self.now.arena old c.loop-key.self.arena nodes (
    subst (AreLeaving f ends c.args.self.now.arena old c.loop-key.self.arena nodes) (drop_all c.loop-key.key-index c.args.keys.now (omega (arith, c.loop-key-test.false)))
    (c.loop-key.invariant.0 f ends h can lead))

pub returns-clause-ended : goal.returns-clause-ended
returns-clause-ended c program s t out layout ends h can =
    ended-left program s t (all_but ends (is_stacked s)) out layout c.args.self.now.arena c.loop-key.self.arena (nodes_of c.args.self.now.nodes) (nodes_of c.loop-key.self.nodes)
    (λ k lead. returns-clause-left c (record (frames_in program t out layout) { on = is_stacked s }) ends k can lead) h
