use Rattle.std.proofs.Common.{◌≡◌, ◌-◌, ◌<◌, ℕ, suc, length, subst, sym, arith, slice_set, Some}
use Rattle.hep_arena.proofs.Lists.{get-set_other}
use Rattle.hep_proc.specs.Nodes.{nodes_of}
use Rattle.hep_proc.proofs.Slabs.{some-value}
use Rattle.hep_state_text.specs.NodeKeys.{IsClosedAt}
use Rattle.hep_state_text.proofs.NodeKeys.{closed-parent, has-parent, set-keys, set-still}
use Rattle.hep_state_text.proofs.held_activations.note_parent.Goals as goal

pub activation-requires : goal.activation-requires
activation-requires c =
    let k = has-parent (nodes_of c.args.frames.now.nodes) c.args.keys.now.items c.requires.nodes c.requires.keys c.args.index c.in-Some.key c.in-Some-parent.above c.index.result.now c.parent.result
    c.requires.inside c.index.ensures c.in-Some.is c.parent.ensures c.in-Some-parent.is in
    some-value c.args.frames.now.nodes c.in-Some-parent.above k.up k.found

pub overflow_sub-activation : goal.overflow_sub-activation
overflow_sub-activation c =
    let k = has-parent (nodes_of c.args.frames.now.nodes) c.args.keys.now.items c.requires.nodes c.requires.keys c.args.index c.in-Some.key c.in-Some-parent.above c.index.result.now c.parent.result
    c.requires.inside c.index.ensures c.in-Some.is c.parent.ensures c.in-Some-parent.is in
    let number = c.activation.ensures k.up k.found in
    omega (arith, number, k.made.0)

pub index_mut-requires : goal.index_mut-requires
index_mut-requires c =
    let k = has-parent (nodes_of c.args.frames.now.nodes) c.args.keys.now.items c.requires.nodes c.requires.keys c.args.index c.in-Some.key c.in-Some-parent.above c.index.result.now c.parent.result
    c.requires.inside c.index.ensures c.in-Some.is c.parent.ensures c.in-Some-parent.is in
    let number = c.activation.ensures k.up k.found in
    omega (arith, number, k.made.0, k.made.1)

pub returns-clause-keys : goal.returns-clause-keys
returns-clause-keys c =
    let k = has-parent (nodes_of c.args.frames.now.nodes) c.args.keys.now.items c.requires.nodes c.requires.keys c.args.index c.in-Some.key c.in-Some-parent.above c.index.result.now c.parent.result
    c.requires.inside c.index.ensures c.in-Some.is c.parent.ensures c.in-Some-parent.is in
    let number = c.activation.ensures k.up k.found in
    let j = c.activation.result - 1 in
    let inside : j < length c.args.keys.now.items = omega (arith, number, k.made.0, k.made.1) in
    let next : k.up.activation ≡ suc j = omega (arith, number, k.made.0) in
    set-keys c.args.keys.now.items j c.in-Some-parent.above (nodes_of c.args.frames.now.nodes) k.up k.found next inside c.requires.keys

pub returns-clause-still : goal.returns-clause-still
returns-clause-still c =
    let k = has-parent (nodes_of c.args.frames.now.nodes) c.args.keys.now.items c.requires.nodes c.requires.keys c.args.index c.in-Some.key c.in-Some-parent.above c.index.result.now c.parent.result
    c.requires.inside c.index.ensures c.in-Some.is c.parent.ensures c.in-Some-parent.is in
    let number = c.activation.ensures k.up k.found in
    set-still c.args.keys.now.items (c.activation.result - 1) c.in-Some-parent.above (omega (arith, number, k.made.0, k.made.1))

pub returns-clause-behind : goal.returns-clause-behind
returns-clause-behind c i less =
    let k = has-parent (nodes_of c.args.frames.now.nodes) c.args.keys.now.items c.requires.nodes c.requires.keys c.args.index c.in-Some.key c.in-Some-parent.above c.index.result.now c.parent.result
    c.requires.inside c.index.ensures c.in-Some.is c.parent.ensures c.in-Some-parent.is in
    let number = c.activation.ensures k.up k.found in
    get-set_other c.args.keys.now.items (c.activation.result - 1) i (Some c.in-Some-parent.above) (λ same. omega (arith, less, same, number, k.less, k.number, k.made.0))

pub returns-clause-closed : goal.returns-clause-closed
returns-clause-closed c =
    let k = has-parent (nodes_of c.args.frames.now.nodes) c.args.keys.now.items c.requires.nodes c.requires.keys c.args.index c.in-Some.key c.in-Some-parent.above c.index.result.now c.parent.result
    c.requires.inside c.index.ensures c.in-Some.is c.parent.ensures c.in-Some-parent.is in
    let number = c.activation.ensures k.up k.found in
    subst (λ (a : ℕ). IsClosedAt (nodes_of c.args.frames.now.nodes) (slice_set c.args.keys.now.items (a - 1) (Some c.in-Some-parent.above)) c.args.index) (sym number) (
    closed-parent (nodes_of c.args.frames.now.nodes) c.args.keys.now.items c.args.index c.in-Some.key c.in-Some-parent.above k.node k.up k.at k.there k.parent k.found (omega (arith, k.less, k.number, k.made.0)) c.requires.inside)
