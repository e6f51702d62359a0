use Rattle.std.proofs.Common.{◌≡◌, ◌-◌, ◌<◌, suc, length, subst, ap, arith, get_or}
use Rattle.std.proofs.lemmas.Option.{slice_get-get_or, slice_get_within}
use Rattle.hep_proc.specs.Nodes.{nodes_of}
use Rattle.hep_proc.specs.declared.process.Local.{Local}
use Rattle.hep_state_text.specs.NodeKeys.{IsNoted}
use Rattle.hep_state_text.proofs.NodeKeys.{from-next, levels-next, set-keys, set-noted, set-still, stay-both}
use Rattle.hep_state_text.proofs.held_activations.note_levels.Goals as goal

pub loop-level-preserved : goal.loop-level-preserved
loop-level-preserved c =
    let i = c.loop-level.level-index in
    let levels = c.args.levels.now in
    let none : Local = record { key = 0; unit = 0; kept = 0; index = 0 } in
    let l = get_or levels i none in
    let here = slice_get-get_or levels i none c.loop-level-test.true in
    let there = c.requires.there i l here in
    let n = there.0 in
    let number : c.activation.result ≡ n.activation = c.activation.ensures n there.1 in
    let made = c.requires.nodes.made l.key n there.1 in
    let keys = c.loop-level.keys.items in
    let j = c.activation.result - 1 in
    let inside : j < length keys = omega (arith, made.0, made.1, number, c.loop-level.invariant.still.count) in
    let next : n.activation ≡ suc j = omega (arith, number, made.0) in
    let same : j ≡ n.activation - 1 = ap (λ a. a - 1) number in
    let still = set-still keys j l.key inside in
    record {
      keys = set-keys keys j l.key (nodes_of c.args.frames.now.nodes) n there.1 next inside c.loop-level.invariant.keys;
      still = stay-both c.args.keys.now.items keys _ c.loop-level.invariant.still still;
      only = from-next c.args.keys.now.items levels keys j i l here inside c.loop-level.invariant.only;
      noted = levels-next (nodes_of c.args.frames.now.nodes) levels keys _ i l n here there.1 still (subst (IsNoted _) same (set-noted keys j l.key inside)) c.loop-level.invariant.noted;
    }

pub returns-clause-noted : goal.returns-clause-noted
returns-clause-noted c i l n e f =
    let inside = slice_get_within c.args.levels.now i l e in
    c.loop-level.invariant.noted i l n (omega (arith, inside, c.loop-level-test.false)) e f
