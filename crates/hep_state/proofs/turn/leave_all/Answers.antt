use Rattle.std.proofs.Common.{◌≡◌, List, [], ◌∷◌, ◌++◌, length, reverse, refl, sym, ap, ◌∙◌, subst, arith}
use Rattle.std.proofs.lemmas.List.{reverse-append}
use Rattle.hep_layout.specs.Words.{is_stacked}
use Rattle.hep_proc.specs.FrameTable.{all_but, frames_in, frames_left}
use Rattle.hep_proc.specs.Nodes.{nodes_of}
use Rattle.hep_proc.proofs.SeveralFrames.{AreLeaving, leaving-begins, leaving-ends, leaving-goes_on, leaving-next}
use Rattle.hep_proc.proofs.Slabs.{some-value}
use Rattle.hep_proc.proofs.UnchangedFrames.{ended-left}
use Rattle.hep_proc.specs.declared.process.Local.{Local}
use Rattle.hep_proc.specs.Stacks.{keys_of}
use Rattle.hep_state.proofs.turn.leave_all.Goals as goal

-- the key of the level that was taken off, and those of the levels that are left
popped : (xs ys : List Local) (l : Local) → xs ≡ ys ++ l ∷ [] → keys_of (reverse xs) ≡ l.key ∷ keys_of (reverse ys)
popped xs ys l e = ap (λ (zs : List Local). keys_of (reverse zs)) e ∙ ap keys_of (reverse-append ys (l ∷ []))

no-levels : (xs : List Local) → length xs ≡ 0 → xs ≡ []
no-levels [] e = refl
no-levels (l ∷ ls) e = absurd (omega (arith, e))

pub loop-level-init : goal.loop-level-init
loop-level-init c =
    ((λ f ends h can lead. leaving-begins f ends c.args.frames.now.arena (nodes_of c.args.frames.now.nodes) (keys_of (reverse c.args.levels.now.items)) h can), refl)

pub leave-requires-clause-there : goal.leave-requires-clause-there
leave-requires-clause-there c =
    let (f, ends, keeps, can, lead) = c.requires in
    let l = c.in-Some.level in
    let old = nodes_of c.args.frames.now.nodes in
    let nodes = nodes_of c.loop-level.frames.nodes in
    let g = subst (AreLeaving f ends c.args.frames.now.arena old c.loop-level.frames.arena nodes) (popped c.loop-level.levels.items c.pop.new.self.items l c.in-Some.ensures.items) (c.loop-level.invariant.0 f ends keeps can lead) in
    let next = leaving-next f ends c.args.frames.now.arena old c.loop-level.frames.arena nodes l.key (keys_of (reverse c.pop.new.self.items)) g in
    some-value c.loop-level.frames.nodes l.key next.node next.there

pub leave-requires-clause-kept : goal.leave-requires-clause-kept
leave-requires-clause-kept c =
    let (f, ends, keeps, can, lead) = c.requires in
    let g = c.loop-level.invariant.0 f ends keeps can lead in
    (frames_left (record f { on = g.on_now }) g.left.still, g.left.keeps)

pub loop-level-preserved : goal.loop-level-preserved
loop-level-preserved c = (
  (λ f ends h can lead.
      let l = c.in-Some.level in
      let rest = keys_of (reverse c.pop.new.self.items) in
      let old = nodes_of c.args.frames.now.nodes in
      let nodes = nodes_of c.loop-level.frames.nodes in
      let g = subst (AreLeaving f ends c.args.frames.now.arena old c.loop-level.frames.arena nodes) (popped c.loop-level.levels.items c.pop.new.self.items l c.in-Some.ensures.items) (c.loop-level.invariant.0 f ends h can lead) in
      let next = leaving-next f ends c.args.frames.now.arena old c.loop-level.frames.arena nodes l.key rest g in
      leaving-goes_on f ends c.args.frames.now.arena old c.loop-level.frames.arena nodes c.leave.new.self.arena (nodes_of c.leave.new.self.nodes) l.key rest g next (
      c.leave.ensures.left (frames_left (record f { on = g.on_now }) g.left.still) next.node g.left.keeps next.there lead)),
  c.leave.ensures.cells ∙ c.loop-level.invariant.1,
)

pub returns-clause-ended : goal.returns-clause-ended
returns-clause-ended c program s t out layout ends h can =
    let old = nodes_of c.args.frames.now.nodes in
    let nodes = nodes_of c.loop-level.frames.nodes in
    let f = record (frames_in program t out layout) { on = is_stacked s } in
    let none = no-levels c.loop-level.levels.items (sym c.loop-level.levels.ok.0 ∙ c.in_default.ensures.cases.0) in
    ended-left program s t (all_but ends (is_stacked s)) out layout c.args.frames.now.arena c.loop-level.frames.arena old nodes
    (λ k lead.
    leaving-ends f ends c.args.frames.now.arena old c.loop-level.frames.arena nodes (
    subst (λ (xs : List Local). AreLeaving f ends c.args.frames.now.arena old c.loop-level.frames.arena nodes (keys_of (reverse xs))) none
    (c.loop-level.invariant.0 f ends k can lead)))
    h
