use Rattle.std.proofs.Common.{◌<◌, ◌∙◌, ap, arith, nat_eq, refl, subst, sym}
use Rattle.std.proofs.lemmas.Option.{same_Some}
use Rattle.hep_proc.specs.Nodes.{nodes_of}
use Rattle.hep_proc.proofs.Slabs.{some-value}
use Rattle.hep_trace.proofs.Climbs.{activation-there, activation_at, meets-next, met-nowhere, met-there, up-lower, up-there}
use Rattle.hep_trace.proofs.held_activations.is_above.Goals as goal

pub loop-next-init : goal.loop-next-init
loop-next-init c =
    let nodes = nodes_of c.args.machine.now.frames.nodes in
    record {
      there = λ key e. (c.requires.4, ap nodes (sym (same_Some c.args.key key e)) ∙ c.requires.5);
      meets = λ ns h. (ns, h, refl);
    }

pub activation-activation-requires : goal.activation-activation-requires
activation-activation-requires c =
    let it = c.loop-next.invariant.there c.in-Some.at c.in-Some.is in
    some-value c.args.machine.now.frames.nodes c.in-Some.at it.0 it.1

pub parent-next-requires : goal.parent-next-requires
parent-next-requires c =
    let it = c.loop-next.invariant.there c.in-Some.at c.in-Some.is in
    some-value c.args.machine.now.frames.nodes c.in-Some.at it.0 it.1

pub returns-then-activation-a : goal.returns-then-activation-a
returns-then-activation-a c program cells choices n after there =
    let m = c.args.machine.now in
    let it = c.loop-next.invariant.there c.in-Some.at c.in-Some.is in
    let same = c.activation-activation.ensures it.0 it.1 in
    ap (λ b. nat_eq b c.args.a) same
    ∙ met-there program cells choices m after c.args.a c.args.key c.in-Some.at c.loop-next.next n it.0 c.loop-next.invariant.meets c.in-Some.is it.1 (omega (arith, same, c.if-activation-a.true)) there

pub loop-next-preserved : goal.loop-next-preserved
loop-next-preserved c =
    let m = c.args.machine.now in
    let nodes = nodes_of m.frames.nodes in
    let at = c.in-Some.at in
    let it = c.loop-next.invariant.there at c.in-Some.is in
    let up = c.parent-next.ensures it.0 it.1 in
    let same = c.activation-activation.ensures it.0 it.1 in
    record {
      there = up-there c.requires.0 c.requires.1 c.requires.2 m c.requires.3 at it.0 it.1 c.parent-next.result up;
      meets = meets-next nodes c.args.a c.args.key at c.loop-next.next c.parent-next.result it.0 c.loop-next.invariant.meets c.in-Some.is it.1 up (λ e. omega (arith, e, same, c.if-activation-a.false));
    }

pub loop-next-smaller : goal.loop-next-smaller
loop-next-smaller c =
    let m = c.args.machine.now in
    let nodes = nodes_of m.frames.nodes in
    let at = c.in-Some.at in
    let it = c.loop-next.invariant.there at c.in-Some.is in
    let lower = up-lower c.requires.0 c.requires.1 c.requires.2 m c.requires.3 at it.0 it.1 c.parent-next.result (c.parent-next.ensures it.0 it.1) in
    subst (λ k. activation_at nodes c.parent-next.result < k) (sym (activation-there nodes c.loop-next.next at it.0 c.in-Some.is it.1)) lower

pub returns : goal.returns
returns c program cells choices n after there =
    met-nowhere program cells choices c.args.machine.now after c.args.a c.args.key c.loop-next.next n c.loop-next.invariant.meets c.in_default.is there
