use Rattle.std.proofs.Common.{◌≡◌, ◌≤◌, ◌∙◌, List, length, subst, sym, ap, arith, slice_get, Some}
use Rattle.std.proofs.lemmas.Option.{slice_get-get_or, slice_get_within}
use Rattle.hep_proc.specs.Nodes.{nodes_of}
use Rattle.hep_proc.specs.declared.process.Local.{Local}
use Rattle.hep_proc.specs.declared.process.Process.{Process}
use Rattle.hep_state_text.specs.NodeKeys.{AreFrom, AreNoted, IsForest}
use Rattle.hep_state_text.proofs.HeldKeys.{forest, levels-there}
use Rattle.hep_state_text.proofs.NodeKeys.{on-next, processes-next}
use Rattle.hep_state_text.proofs.held_activations.stacked_keys.Goals as goal

pub note_levels-requires-clause-nodes : goal.note_levels-requires-clause-nodes
note_levels-requires-clause-nodes c =
    subst (IsForest (nodes_of c.args.machine.now.frames.nodes)) (sym c.loop-process.invariant.count) (forest c.requires.0 c.requires.1 c.requires.2 c.args.machine.now c.requires.3)

pub note_levels-requires-clause-there : goal.note_levels-requires-clause-there
note_levels-requires-clause-there c j l e =
    let list = c.deref-process-items.result.now in
    let items = c.args.machine.now.processes.items in
    let i = c.loop-process.process-index in
    let q = c.process-item.result in
    let there : slice_get items i ≡ Some q = ap (λ (xs : List Process). slice_get xs i) (sym c.deref-process-items.ensures.value) ∙ slice_get-get_or list i q c.loop-process-test.true ∙ ap (λ (z : Process). Some z) (sym c.process-item.is) in
    levels-there c.requires.0 c.requires.1 c.requires.2 c.args.machine.now c.requires.3 i q there j l (ap (λ (ls : List Local). slice_get ls j) (sym c.deref.ensures.value) ∙ e)

pub loop-process-preserved : goal.loop-process-preserved
loop-process-preserved c =
    let list = c.deref-process-items.result.now in
    let items = c.args.machine.now.processes.items in
    let i = c.loop-process.process-index in
    let q = c.process-item.result in
    let there : slice_get items i ≡ Some q = ap (λ (xs : List Process). slice_get xs i) (sym c.deref-process-items.ensures.value) ∙ slice_get-get_or list i q c.loop-process-test.true ∙ ap (λ (z : Process). Some z) (sym c.process-item.is) in
    let nodes = nodes_of c.args.machine.now.frames.nodes in
    let new = c.note_levels.new.keys.items in
    record {
      count = c.note_levels.ensures.still.count ∙ c.loop-process.invariant.count;
      keys = c.note_levels.ensures.keys;
      only = on-next items i q c.loop-process.keys.items new there (subst (λ (ls : List Local). AreFrom c.loop-process.keys.items ls new) c.deref.ensures.value c.note_levels.ensures.only) c.loop-process.invariant.only;
      noted = processes-next nodes items c.loop-process.keys.items new i q there c.note_levels.ensures.still (subst (λ (ls : List Local). AreNoted nodes ls new) c.deref.ensures.value c.note_levels.ensures.noted) c.loop-process.invariant.noted;
    }

pub returns : goal.returns
returns c =
    let items = c.args.machine.now.processes.items in
    let inv = c.loop-process.invariant in
    let few : length items ≤ c.loop-process.process-index = omega (arith, c.loop-process-test.false, ap length c.deref-process-items.ensures.value) in
    record {
      count = inv.count;
      noted = inv.keys;
      all = λ i q e. let inside = slice_get_within items i q e in inv.noted i q (omega (arith, inside, few)) e;
      only = λ i key e. let it = inv.only i key e in (it.0, it.1, slice_get_within items it.0 it.1 it.3, it.3, it.4);
    }
