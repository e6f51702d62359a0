-- The keys of the nodes of what a machine holds.
use Rattle.std.proofs.Common.{◌≡◌, inl, inr, ℕ, zero, suc, ◌-◌, ◌<◌, List, [], ◌∷◌, length, reverse, Option, Some, None, refl, sym, ap, ◌∙◌, subst, arith, slice_get, get_or}
use Rattle.std.specs.Option.{option_map}
use Rattle.std.specs.List.{flat_map}
use Rattle.std.proofs.lemmas.List.{get_or-reverse, length-reverse, reverse-reverse}
use Rattle.std.proofs.lemmas.Option.{none-some, same_Some, slice_get_within, get_or_from_slice_get, slice_get-get_or}
use Rattle.hep_machine.specs.Words.{Units, parent_of, run, State}
use Rattle.hep_machine.proofs.Ages.{run_older}
use Rattle.hep_layout.specs.Words.{FrameNode, Nodes, activation_under}
use Rattle.hep_proc.specs.declared.process.Local.{Local}
use Rattle.hep_proc.specs.declared.process.Process.{Process}
use Rattle.hep_proc.specs.Nodes.{nodes_of}
use Rattle.hep_proc.specs.Stacks.{keys_of, Stack, stack_of}
use Rattle.hep_state.specs.declared.core_state.CoreState.{CoreState}
use Rattle.hep_state.specs.Words.{AreThere, IsAfter, IsMachineAfter, IsThere, node_under, snapshot_of, stack_numbered}
use Rattle.hep_state.proofs.ProcessNumbers.{IsFrom, numbered-there as made-there, stack-from}
use Rattle.hep_state.proofs.Processes.{numbered-at}
use Rattle.hep_state_text.specs.NodeKeys.{AreHeldKeys, AreKeys, AreNoted, HaveNodes, IsClosedAt, IsForest, IsNoted}
use Rattle.hep_state_text.proofs.NodeKeys.{among-noted, noted-stacks}
use Rattle.hep_state.proofs.TopActivations.{numbered-there}

-- ---- levels that stand the other way round

-- an element of the turned list is one of the list
pub turned : {A : Type 0} (xs : List A) (i : ℕ) (x : A) → slice_get (reverse xs) i ≡ Some x → (j : ℕ) × (slice_get xs j ≡ Some x)
turned xs i x e =
    let less : i < length xs = omega (arith, slice_get_within (reverse xs) i x e, length-reverse xs) in
    let j = length xs - 1 - i in
    let is : x ≡ get_or xs j x = sym (get_or_from_slice_get (reverse xs) i x x e) ∙ get_or-reverse xs i x less in
    (j, slice_get-get_or xs j x (omega (arith, less)) ∙ ap (λ y. Some y) (sym is))

there-at : (program : Units) (nodes : Nodes) (ls : List Local) (i : ℕ) (l : Local) → AreThere program nodes ls → slice_get ls i ≡ Some l → IsThere program nodes l
there-at program nodes [] i l h e = absurd (none-some l e)
there-at program nodes (k ∷ ls) zero l h e = subst (IsThere program nodes) (same_Some k l e) h.0
there-at program nodes (k ∷ ls) (suc i) l h e = there-at program nodes ls i l h.1 e

module _ (program : Units) (cells : ℕ) (choices : List ℕ) (m : CoreState) (kept : IsMachineAfter program cells choices m) where
  abbrev after : IsAfter program cells choices (snapshot_of m)
  after = kept.after

  abbrev s : State
  s = run program choices

  abbrev nodes : Nodes
  nodes = nodes_of m.frames.nodes

  pub forest : IsForest nodes m.activations
  forest =
      let tree = after.shows.keeps.tree in
      record {
        made = λ key n e.
            let made = tree.made n.activation (tree.shown key n e).out_is in
            (made.0, omega (arith, made.1, after.shows.activations));
        older = λ key above n e parent. by_parent n.activation above (ap (activation_under nodes) (sym parent) ∙ (tree.shown key n e).parent_is);
      }
    where
      by_parent : (a above : ℕ) → activation_under nodes (Some above) ≡ Some (parent_of s a)
          → (n : FrameNode) × (nodes above ≡ Some n) × (n.activation < a)
      by_parent a above e = by_node (nodes above) refl e where
        by_node : (q : Option FrameNode) → nodes above ≡ q → option_map (λ (n : FrameNode). Some n.activation) q ≡ Some (parent_of s a)
            → (n : FrameNode) × (nodes above ≡ Some n) × (n.activation < a)
        by_node None there h = absurd (none-some (parent_of s a) h)
        by_node (Some n) there h =
            let parent : parent_of s a ≡ Some n.activation = sym (same_Some (Some n.activation) (parent_of s a) h) in
            (n, there, (run_older program choices a n.activation parent).1)

  -- the levels of a process have nodes
  pub levels-there : (i : ℕ) (q : Process) → slice_get m.processes.items i ≡ Some q → HaveNodes nodes q.levels.items
  levels-there i q e j l f =
      let k = numbered-at m q.number i q kept.numbers e refl in
      let source = numbered-there (snapshot_of m).processes s.processes q.number (stack_of q) after.shows.processes k in
      let there = (after.shows.stacks q.number (stack_of q) source.0 k source.1).there in
      let back = turned (reverse q.levels.items) j l (ap (λ ls. slice_get ls j) (reverse-reverse q.levels.items) ∙ f) in
      let it = there-at program nodes (reverse q.levels.items) back.0 l there back.1 in
      (node_under nodes l.key, it.1)

  -- the levels of each stack are noted, where those of all processes are
  pub noted-stack : (keys : List (Option ℕ)) → ((i : ℕ) (q : Process) → slice_get m.processes.items i ≡ Some q → AreNoted nodes q.levels.items keys)
      → (i : ℕ) (k : Stack) → slice_get (snapshot_of m).processes i ≡ Some k → AreNoted nodes k.levels keys
  noted-stack keys noted i k e = by_kept (stack-from m.processes.items (suc i)) where
    is : stack_numbered m.processes.items (suc i) ≡ k
    is = (made-there m.processes.items m.made (suc i) k e).2

    by_kept : IsFrom m.processes.items (stack_numbered m.processes.items (suc i)) → AreNoted nodes k.levels keys
    by_kept (inl none) = subst (λ (z : Stack). AreNoted nodes z.levels keys) (sym none ∙ is) (λ j l n f g. absurd (none-some l f))
    by_kept (inr found) =
        subst (λ (z : Stack). AreNoted nodes z.levels keys) (sym found.3 ∙ is) (
        λ j l n f g. let back = turned found.1.levels.items j l f in noted found.0 found.1 found.2 back.0 l n back.1 g)

  -- all that is held is noted
  pub all-noted : (keys : List (Option ℕ)) → length keys ≡ m.activations → AreKeys nodes keys → ((i : ℕ) → IsClosedAt nodes keys i)
      → ((i : ℕ) (q : Process) → slice_get m.processes.items i ≡ Some q → AreNoted nodes q.levels.items keys) → AreHeldKeys (snapshot_of m) keys
  all-noted keys count are closed noted =
      record {
        count = count;
        noted = are;
        others = λ i none. among-noted nodes m.activations forest keys are closed after.shows.keeps.tree.single (suc i) (suc m.activations)
            (flat_map (λ (k : Stack). keys_of k.levels) (snapshot_of m).processes)
            (noted-stacks nodes m.activations forest keys are closed after.shows.keeps.tree.single (suc i) (snapshot_of m).processes (noted-stack keys noted)) (λ h. absent i none h);
      }
    where
      absent : (i : ℕ) → slice_get keys i ≡ Some None → IsNoted keys (suc i - 1) → ⊥
      absent i none h =
          let same : suc i - 1 ≡ i = omega arith in
          none-some h.0 (same_Some None (Some h.0) (sym none ∙ ap (slice_get keys) (sym same) ∙ h.1))
