-- The activations on the stacks of a machine are those on the stacks of the state that it keeps.
use Rattle.std.proofs.Common.{◌≡◌, inl, inr, ℕ, zero, suc, ◌-◌, true, true≢false, List, [], ◌∷◌, length, reverse, take, Option, Some, None, refl, sym, ap, ◌∙◌, subst, arith, is_some, nat_eq, slice_get}
use Rattle.std.proofs.lemmas.Bool.{cases_Bool, eq-eqb, eqb-true, or_cases, or_left, or_right}
use Rattle.std.proofs.lemmas.Option.{none-some, same_Some}
use Rattle.std.proofs.lemmas.List.{reverse-reverse}
use Rattle.hep_layout.specs.Words.{FrameNode, Nodes, is_stacked}
use Rattle.hep_layout.proofs.FrameTree.{on-stacked, stacked-on}
use Rattle.hep_machine.specs.Words.{Value, Units, activations_on, is_number_among, numbered, run, State, Process as SourceProcess}
use Rattle.hep_proc.specs.declared.process.Local.{Local}
use Rattle.hep_proc.specs.declared.process.Process.{Process}
use Rattle.hep_proc.specs.Nodes.{nodes_of}
use Rattle.hep_proc.specs.Stacks.{Stack, stack_of}
use Rattle.hep_state.specs.declared.core_state.CoreState.{CoreState}
use Rattle.hep_state.specs.Words.{IsAfter, IsMachineAfter, snapshot_of}
use Rattle.hep_state.proofs.Processes.{numbered-at}
use Rattle.hep_state.proofs.SettledPositions.{AreStanding, AreStandingBelow, IsHere, stack-standing}
use Rattle.hep_state.proofs.TopActivations.{numbered-there}
use Rattle.hep_state_text.specs.NodeKeys.{AreStackedKeys, IsNoted}
use Rattle.hep_state_text.proofs.HeldKeys.{noted-stack, turned}

-- ---- the levels of a process

module _ (program : Units) (s : State) (nodes : Nodes) where
  -- the node of a level is of the activation
  here-is : (l : Local) (a : ℕ) (n : FrameNode) → IsHere program s nodes l a → nodes l.key ≡ Some n → n.activation ≡ a
  here-is l a n h there = ap (λ (z : FrameNode). z.activation) (same_Some n h.node (sym there ∙ h.there)) ∙ sym h.activation

  below-has : (above : ℕ) (pending : List Value) (ls : List Local) (q : SourceProcess) → AreStandingBelow program s nodes above pending ls q → (j : ℕ) (l : Local) (n : FrameNode)
      → slice_get ls j ≡ Some l → nodes l.key ≡ Some n → is_number_among n.activation (activations_on q) ≡ true
  below-has above pending [] q h j l n e there = absurd (none-some l e)
  below-has above pending (k ∷ ls) [] h j l n e there = absurd h
  below-has above pending (k ∷ ls) (level ∷ levels) h zero l n e there =
      let own = here-is k level.activation n h.0.here (ap (λ (z : Local). nodes z.key) (same_Some k l e) ∙ there) in
      or_left (nat_eq n.activation level.activation) (is_number_among n.activation (activations_on levels)) (eq-eqb n.activation level.activation own)
  below-has above pending (k ∷ ls) (level ∷ levels) h (suc j) l n e there =
      or_right (nat_eq n.activation level.activation) (is_number_among n.activation (activations_on levels)) (below-has k.unit (take (length pending - k.kept) pending) ls levels h.1 j l n e there)

  stack-has : (vs pending : List Value) (ls : List Local) (q : SourceProcess) → AreStanding program s nodes vs pending ls q → (j : ℕ) (l : Local) (n : FrameNode)
      → slice_get ls j ≡ Some l → nodes l.key ≡ Some n → is_number_among n.activation (activations_on q) ≡ true
  stack-has vs pending [] q h j l n e there = absurd (none-some l e)
  stack-has vs pending (k ∷ ls) [] h j l n e there = absurd h
  stack-has vs pending (k ∷ ls) (level ∷ levels) h zero l n e there =
      let own = here-is k level.activation n h.0.here (ap (λ (z : Local). nodes z.key) (same_Some k l e) ∙ there) in
      or_left (nat_eq n.activation level.activation) (is_number_among n.activation (activations_on levels)) (eq-eqb n.activation level.activation own)
  stack-has vs pending (k ∷ ls) (level ∷ levels) h (suc j) l n e there =
      or_right (nat_eq n.activation level.activation) (is_number_among n.activation (activations_on levels)) (below-has k.unit pending ls levels h.1 j l n e there)

  -- a level of these has the node of an activation
  abbrev HasLevel : List Local → ℕ → Type 0
  HasLevel ls a = (j : ℕ) × (l : Local) × (n : FrameNode) × (slice_get ls j ≡ Some l) × (nodes l.key ≡ Some n) × (n.activation ≡ a)

  level-here : (l : Local) (ls : List Local) (a b : ℕ) → IsHere program s nodes l b → nat_eq a b ≡ true → HasLevel (l ∷ ls) a
  level-here l ls a b h same = (0, l, h.node, refl, h.there, sym h.activation ∙ sym (eqb-true a b same))

  level-behind : (l : Local) (ls : List Local) (a : ℕ) → HasLevel ls a → HasLevel (l ∷ ls) a
  level-behind l ls a h = (suc h.0, h.1, h.2, h.3, h.4, h.5)

  below-found : (a above : ℕ) (pending : List Value) (ls : List Local) (q : SourceProcess) → AreStandingBelow program s nodes above pending ls q
      → is_number_among a (activations_on q) ≡ true → HasLevel ls a
  below-found a above pending [] [] h among = absurd (true≢false (sym among))
  below-found a above pending [] (level ∷ levels) h among = absurd h
  below-found a above pending (l ∷ ls) [] h among = absurd h
  below-found a above pending (l ∷ ls) (level ∷ levels) h among =
      elim (or_cases (nat_eq a level.activation) (is_number_among a (activations_on levels)) among) [
        | inl own ↦ level-here l ls a level.activation h.0.here own
        | inr rest ↦ level-behind l ls a (below-found a l.unit (take (length pending - l.kept) pending) ls levels h.1 rest)
      ]

  stack-found : (a : ℕ) (vs pending : List Value) (ls : List Local) (q : SourceProcess) → AreStanding program s nodes vs pending ls q
      → is_number_among a (activations_on q) ≡ true → HasLevel ls a
  stack-found a vs pending [] [] h among = absurd (true≢false (sym among))
  stack-found a vs pending [] (level ∷ levels) h among = absurd h
  stack-found a vs pending (l ∷ ls) [] h among = absurd h
  stack-found a vs pending (l ∷ ls) (level ∷ levels) h among =
      elim (or_cases (nat_eq a level.activation) (is_number_among a (activations_on levels)) among) [
        | inl own ↦ level-here l ls a level.activation h.0.here own
        | inr rest ↦ level-behind l ls a (below-found a l.unit pending ls levels h.1 rest)
      ]

-- ---- the stacks of a machine

module _ (program : Units) (cells : ℕ) (choices : List ℕ) (m : CoreState) (kept : IsMachineAfter program cells choices m) where
  abbrev after : IsAfter program cells choices (snapshot_of m)
  after = kept.after

  abbrev s : State
  s = run program choices

  abbrev nodes : Nodes
  nodes = nodes_of m.frames.nodes

  standing : (p : ℕ) (k : Stack) (q : SourceProcess) → numbered (snapshot_of m).processes p ≡ Some k → numbered s.processes p ≡ Some q
      → AreStanding program s nodes k.operands k.pending k.levels q
  standing p k q here there = stack-standing program s nodes m.frames.arena.contents k q (after.shows.stacks p k q here there)

  -- the node of a level of a process is of an activation on a stack
  on-a-stack : (i j : ℕ) (q : Process) (l : Local) (n : FrameNode) → slice_get m.processes.items i ≡ Some q → slice_get q.levels.items j ≡ Some l → nodes l.key ≡ Some n
      → is_stacked s n.activation ≡ true
  on-a-stack i j q l n e f there =
      let k = numbered-at m q.number i q kept.numbers e refl in
      let source = numbered-there (snapshot_of m).processes s.processes q.number (stack_of q) after.shows.processes k in
      let back = turned (reverse q.levels.items) j l (ap (λ ls. slice_get ls j) (reverse-reverse q.levels.items) ∙ f) in
      let among = stack-has program s nodes (stack_of q).operands (stack_of q).pending (stack_of q).levels source.0 (standing q.number (stack_of q) source.0 k source.1) back.0 l n back.1 there in
      on-stacked s n.activation (q.number, source.0, source.1, among)

  module _ (keys : List (Option ℕ)) (are : AreStackedKeys m keys) where
    noted-there : (a p : ℕ) (q : SourceProcess) → numbered s.processes p ≡ Some q → is_number_among a (activations_on q) ≡ true → IsNoted keys (a - 1)
    noted-there a zero q e among = absurd (none-some q e)
    noted-there a (suc i) q e among =
        let k = numbered-there s.processes (snapshot_of m).processes (suc i) q (sym after.shows.processes) e in
        let found = stack-found program s nodes a k.0.operands k.0.pending k.0.levels q (standing (suc i) k.0 q k.1 e) among in
        subst (λ b. IsNoted keys (b - 1)) found.5 (noted-stack program cells choices m kept keys are.all i k.0 k.1 found.0 found.1 found.2 found.3 found.4)

    -- an activation has a key just where it is on a stack
    pub stacked-is : (i : ℕ) (o : Option ℕ) → slice_get keys i ≡ Some o → is_some o ≡ is_stacked s (suc i)
    stacked-is i (Some key) e =
        let n = are.noted i key e in
        let on = are.only i key e in
        let level = on.4 in
        sym (ap (is_stacked s) (sym n.2) ∙ on-a-stack on.0 level.0 on.1 level.1 n.0 on.3 level.2 (ap nodes level.3 ∙ n.1))
    stacked-is i None e = elim (cases_Bool (is_stacked s (suc i))) [
      | inl on ↦
          let there = stacked-on s (suc i) on in
          let noted = noted-there (suc i) there.0 there.1 there.2 there.3 in
          let same : suc i - 1 ≡ i = omega arith in
          absurd (none-some noted.0 (same_Some None (Some noted.0) (sym e ∙ ap (slice_get keys) (sym same) ∙ noted.1)))
      | inr off ↦ sym off
    ]
