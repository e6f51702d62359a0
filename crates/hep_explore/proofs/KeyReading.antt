-- The parts of a machine's key can be read from a machine that keeps a state.
use Rattle.std.proofs.Common.{◌≡◌, ◌∷◌, [], ℕ, zero, suc, ◌+◌, ◌-◌, ◌<◌, ◌≤◌, List, length, reverse, Option, Some, refl, sym, ap, ◌∙◌}
use Rattle.std.proofs.Common.{subst, arith, get_or, slice_get}
use Rattle.std.proofs.lemmas.List.{get_or-reverse, length-reverse}
use Rattle.std.proofs.lemmas.Option.{get_or_from_slice_get, none-some, same_Some, slice_get-get_or, slice_get_within}
use Rattle.hep_machine.specs.Words.{Frame, State, Units, common_cells, run}
use Rattle.hep_arena.specs.Holes.{IsOut}
use Rattle.hep_arena.proofs.Gaps.{apart-end, front-out}
use Rattle.hep_layout.specs.Words.{FrameNode, Nodes}
use Rattle.hep_layout.proofs.Memory.{frame-is-out}
use Rattle.hep_proc.specs.Nodes.{nodes_of}
use Rattle.hep_proc.specs.declared.process.Local.{Local}
use Rattle.hep_proc.specs.declared.process.Process.{Process}
use Rattle.hep_proc.specs.Stacks.{stack_of}
use Rattle.hep_state.specs.declared.core_state.CoreState.{CoreState}
use Rattle.hep_state.specs.Words.{AreThere, IsMachineAfter, node_under, snapshot_of}
use Rattle.hep_state.proofs.Processes.{numbered-at}
use Rattle.hep_state.proofs.TopActivations.{numbered-there}
use Rattle.hep_state_text.specs.NodeKeys.{AreHeldKeys, HaveNodes}
use Rattle.hep_explore.specs.Contents.{keys_among}
use Rattle.hep_explore.specs.KeyParts.{AreCellsOut, IsFrameThere}
use Rattle.hep_explore.proofs.HeldNodes.{IsHeld, inside, node-listed, parent-there}

-- the node of a level, where those of all levels are there, the last level first
level-node : (program : Units) (nodes : Nodes) (ls : List Local) (i : ℕ) (l : Local) → AreThere program nodes ls → slice_get ls i ≡ Some l
    → (n : FrameNode) × (nodes l.key ≡ Some n)
level-node program nodes [] i l h e = absurd (none-some l e)
level-node program nodes (k ∷ ls) zero l h e =
    (node_under nodes k.key, ap (λ (z : Local). nodes z.key) (sym (same_Some k l e)) ∙ h.0.1)
level-node program nodes (k ∷ ls) (suc i) l h e = level-node program nodes ls i l h.1 e

-- .. the first level first
turned-node : (program : Units) (nodes : Nodes) (ls : List Local) → AreThere program nodes (reverse ls) → HaveNodes nodes ls
turned-node program nodes ls h i l e =
    let within = slice_get_within ls i l e in
    let j = length ls - 1 - i in
    let less : j < length ls = omega (arith, within) in
    let back : length ls - 1 - j ≡ i = omega (arith, within) in
    let is = get_or-reverse ls j l less ∙ ap (λ n. get_or ls n l) back ∙ get_or_from_slice_get ls i l l e in
    let at = slice_get-get_or (reverse ls) j l (omega (arith, less, length-reverse ls)) ∙ ap (λ k. Some k) is in
    level-node program nodes (reverse ls) j l h at

-- the levels of a process that is kept
pub have-nodes : (program : Units) (cells : ℕ) (choices : List ℕ) (m : CoreState) → IsMachineAfter program cells choices m → (i : ℕ)
    (q : Process) → slice_get m.processes.items i ≡ Some q → HaveNodes (nodes_of m.frames.nodes) q.levels.items
have-nodes program cells choices m kept i q e =
    let k = numbered-at m q.number i q kept.numbers e refl in
    let s : State = run program choices in
    let source = numbered-there (snapshot_of m).processes s.processes q.number (stack_of q) kept.after.shows.processes k in
    turned-node program (nodes_of m.frames.nodes) q.levels.items
    (kept.after.shows.stacks q.number (stack_of q) source.0 k source.1).there

module _ (program : Units) (cells : ℕ) (choices : List ℕ) (m : CoreState) (kept : IsMachineAfter program cells choices m) where
  few : length m.frames.arena.contents ≤ 16777216
  few = omega (arith, kept.few, kept.after.size)

  -- COMMON
  pub common-out : AreCellsOut m.frames.arena 0 (common_cells program)
  common-out =
      let memory = kept.after.shows.keeps.memory in
      let apart = memory.laid.apart in
      record {
        few = few;
        inside = omega (arith, apart-end (length m.frames.arena.contents) (common_cells program) kept.after.layout apart);
        out = λ i less. subst (IsOut (0 + i)) (sym memory.holes_are) (
            front-out (length m.frames.arena.contents) (common_cells program) (0 + i) kept.after.layout apart (omega (arith, less)));
      }

  -- a held frame
  module _ (keys : List (Option ℕ)) (held : AreHeldKeys (snapshot_of m) keys) (j key : ℕ)
      (listed : slice_get (keys_among keys) j ≡ Some key) where
    abbrev x : IsHeld program cells (snapshot_of m)
    x = record { choices = choices; after = kept.after; keys = keys; held = held }

    abbrev n : FrameNode
    n = (node-listed x j key listed).0

    there : (snapshot_of m).nodes key ≡ Some n
    there = (node-listed x j key listed).1

    pub frame-there : IsFrameThere m.frames key
    frame-there =
        let frame : Frame = record { activation = n.activation; first = n.first; cells = n.cells } in
        record {
          node = n;
          there = there;
          cells = record {
            few = few;
            inside = inside x key n there;
            out = λ i less. frame-is-out program (run program choices) kept.after.layout m.frames.arena.contents m.frames.arena.holes
                n.activation
                (n.first + i) frame kept.after.shows.keeps.memory (kept.after.shows.keeps.framed key n there) (omega arith)
                (omega (arith, less));
          };
          above = λ parent is. parent-there x key parent n there is;
        }
