use Rattle.std.proofs.Common.{◌<◌, ◌++◌, ◌∙◌, ℕ, List, Some, ap, subst, sym}
use Rattle.std.proofs.lemmas.Option.{same_Some}
use Rattle.hep_proc.specs.Nodes.{nodes_of}
use Rattle.hep_proc.proofs.Slabs.{some-value}
use Rattle.hep_trace.proofs.Climbs.{IsClimb, activation-there, activation_at, climb-ends, climb-next, climbed, up-lower, up-there}
use Rattle.hep_trace.proofs.freed_frames.ancestors.Goals as goal

pub loop-next-init : goal.loop-next-init
loop-next-init c =
    let nodes = nodes_of c.args.machine.now.frames.nodes in
    record {
      there = λ key e. (c.requires.4, ap nodes (sym (same_Some c.args.key key e)) ∙ c.requires.5);
      climbs = λ ns h. subst (λ (xs : List ℕ). IsClimb nodes (Some c.args.key) (xs ++ ns)) (sym c.new-activations.ensures.items) h;
    }

pub activation-requires : goal.activation-requires
activation-requires c =
    let it = c.loop-next.invariant.there c.in-Some.at c.in-Some.is in
    some-value c.args.machine.now.frames.nodes c.in-Some.at it.0 it.1

pub parent-next-requires : goal.parent-next-requires
parent-next-requires c =
    let it = c.loop-next.invariant.there c.in-Some.at c.in-Some.is in
    some-value c.args.machine.now.frames.nodes c.in-Some.at it.0 it.1

pub loop-next-preserved : goal.loop-next-preserved
loop-next-preserved c =
    let m = c.args.machine.now in
    let nodes = nodes_of m.frames.nodes in
    let at = c.in-Some.at in
    let it = c.loop-next.invariant.there at c.in-Some.is in
    let up = c.parent-next.ensures it.0 it.1 in
    record {
      there = up-there c.requires.0 c.requires.1 c.requires.2 m c.requires.3 at it.0 it.1 c.parent-next.result up;
      climbs = climb-next nodes c.args.key at c.loop-next.next c.parent-next.result it.0 c.activation.result c.loop-next.activations.items c.push.new.self.items
          c.loop-next.invariant.climbs c.in-Some.is it.1 (c.activation.ensures it.0 it.1) up c.in_ok-push.ensures.items;
    }

pub loop-next-smaller : goal.loop-next-smaller
loop-next-smaller c =
    let m = c.args.machine.now in
    let nodes = nodes_of m.frames.nodes in
    let at = c.in-Some.at in
    let it = c.loop-next.invariant.there at c.in-Some.is in
    let lower = up-lower c.requires.0 c.requires.1 c.requires.2 m c.requires.3 at it.0 it.1 c.parent-next.result (c.parent-next.ensures it.0 it.1) in
    subst (λ k. activation_at nodes c.parent-next.result < k) (sym (activation-there nodes c.loop-next.next at it.0 c.in-Some.is it.1)) lower

pub returns : goal.returns
returns c program cells choices n after there =
    climbed program cells choices c.args.machine.now after c.args.key n c.loop-next.activations.items there (
    climb-ends (nodes_of c.args.machine.now.frames.nodes) c.args.key c.loop-next.next c.loop-next.activations.items c.loop-next.invariant.climbs c.in_default.is)
