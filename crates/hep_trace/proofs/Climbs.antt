-- The activations of the nodes from one upwards are the ancestry of the first one.
use Rattle.std.proofs.Common.{◌≡◌, ◌||◌, ℕ, zero, suc, ◌<◌, ◌≤◌, false, List, [], ◌∷◌, ◌++◌, Option, Some, None, refl, sym, ap, ◌∙◌, subst, arith, append_assoc, append-nil, nat_eq}
use Rattle.std.specs.Option.{option_map, option_map_or, unwrap_or}
use Rattle.std.proofs.lemmas.Bool.{ne_eqb}
use Rattle.std.proofs.lemmas.Option.{none-some, same_Some}
use Rattle.hep_layout.specs.Words.{FrameNode, IsFrameTree, Nodes, activation_under, is_stacked}
use Rattle.hep_machine.specs.Words.{State, Units, is_held, is_number_among, parent_of, run}
use Rattle.hep_machine.proofs.Ages.{run_older}
use Rattle.hep_proc.specs.Nodes.{nodes_of}
use Rattle.hep_state.specs.declared.core_state.CoreState.{CoreState}
use Rattle.hep_state.specs.Words.{IsMachineAfter, node_under}
use Rattle.hep_trace.specs.Ancestry.{ancestry}
use Rattle.hep_trace.proofs.Ancestors.{first-among}

-- the activations of the node under a key, if there is one, of its parent's node, and so on
abbrev pub IsClimb : Nodes → Option ℕ → List ℕ → Type 0
IsClimb nodes None [] = Unit {0}
IsClimb nodes (Some key) (a ∷ ns) = (n : FrameNode) × (nodes key ≡ Some n) × (n.activation ≡ a) × IsClimb nodes n.parent ns
IsClimb nodes _ _ = ⊥

-- a key, if there is one, has a node
abbrev pub HasNode : Nodes → Option ℕ → Type 0
HasNode nodes next = (key : ℕ) → next ≡ Some key → (n : FrameNode) × (nodes key ≡ Some n)

abbrev pub activation_at : Nodes → Option ℕ → ℕ
activation_at nodes next = option_map_or (λ key. (node_under nodes key).activation) next 0

pub activation-there : (nodes : Nodes) (next : Option ℕ) (key : ℕ) (n : FrameNode) → next ≡ Some key → nodes key ≡ Some n → activation_at nodes next ≡ n.activation
activation-there nodes next key n is there = ap (activation_at nodes) is ∙ ap (λ (o : Option FrameNode). (unwrap_or o (node_under (λ k. None) 0)).activation) there

-- ---- one node more

-- from the node under a key all are found that are found from another one on, behind some
abbrev pub ClimbsTo : Nodes → ℕ → List ℕ → Option ℕ → Type 0
ClimbsTo nodes key found next = (ns : List ℕ) → IsClimb nodes next ns → IsClimb nodes (Some key) (found ++ ns)

pub climb-next : (nodes : Nodes) (key at : ℕ) (next up : Option ℕ) (n : FrameNode) (a : ℕ) (found more : List ℕ) → ClimbsTo nodes key found next → next ≡ Some at → nodes at ≡ Some n → a ≡ n.activation → up ≡ n.parent
    → more ≡ found ++ a ∷ [] → ClimbsTo nodes key more up
climb-next nodes key at next up n a found more so_far next_is there is up_is more_is ns h =
    let own : IsClimb nodes (Some at) (a ∷ ns) = (n, there, sym is, subst (λ (o : Option ℕ). IsClimb nodes o ns) up_is h) in
    let all = so_far (a ∷ ns) (subst (λ (o : Option ℕ). IsClimb nodes o (a ∷ ns)) (sym next_is) own) in
    subst (IsClimb nodes (Some key)) (sym (ap (λ (xs : List ℕ). xs ++ ns) more_is ∙ append_assoc found (a ∷ []) ns)) all

pub climb-ends : (nodes : Nodes) (key : ℕ) (next : Option ℕ) (found : List ℕ) → ClimbsTo nodes key found next → next ≡ None → IsClimb nodes (Some key) found
climb-ends nodes key next found so_far none =
    let end : IsClimb nodes next [] = subst (λ (o : Option ℕ). IsClimb nodes o []) (sym none) tt in
    subst (IsClimb nodes (Some key)) (append-nil found) (so_far [] end)

-- what is found from the node under a key upwards has a number where what is found from another one has it
abbrev pub MeetsFrom : Nodes → ℕ → ℕ → Option ℕ → Type 0
MeetsFrom nodes a key next =
    (ns : List ℕ) → IsClimb nodes next ns → (ms : List ℕ) × IsClimb nodes (Some key) ms × (is_number_among a ms ≡ is_number_among a ns)

pub meets-next : (nodes : Nodes) (a key at : ℕ) (next up : Option ℕ) (n : FrameNode) → MeetsFrom nodes a key next → next ≡ Some at → nodes at ≡ Some n → up ≡ n.parent
    → (a ≡ n.activation → ⊥) → MeetsFrom nodes a key up
meets-next nodes a key at next up n so_far next_is there up_is other ns h =
    let own : IsClimb nodes (Some at) (n.activation ∷ ns) = (n, there, refl, subst (λ (o : Option ℕ). IsClimb nodes o ns) up_is h) in
    let all = so_far (n.activation ∷ ns) (subst (λ (o : Option ℕ). IsClimb nodes o (n.activation ∷ ns)) (sym next_is) own) in
    (all.0, all.1, all.2 ∙ ap (λ t. t || is_number_among a ns) (ne_eqb a n.activation other))

pub meets-none : (nodes : Nodes) (a key : ℕ) (next : Option ℕ) → MeetsFrom nodes a key next → next ≡ None → (ms : List ℕ) × IsClimb nodes (Some key) ms × (is_number_among a ms ≡ false)
meets-none nodes a key next so_far none = so_far [] (subst (λ (o : Option ℕ). IsClimb nodes o []) (sym none) tt)

nothing-above : (nodes : Nodes) (ns : List ℕ) → IsClimb nodes None ns → ns ≡ []
nothing-above nodes [] h = refl
nothing-above nodes (a ∷ ns) h = absurd h

node-of : (nodes : Nodes) (key : ℕ) (ns : List ℕ) → IsClimb nodes (Some key) ns → (n : FrameNode) × (nodes key ≡ Some n)
node-of nodes key [] h = absurd h
node-of nodes key (a ∷ ns) h = (h.0, h.1)

-- ---- nodes of a machine

module _ (program : Units) (cells : ℕ) (choices : List ℕ) (m : CoreState) (after : IsMachineAfter program cells choices m) where
  abbrev s : State
  s = run program choices

  abbrev nodes : Nodes
  nodes = nodes_of m.frames.nodes

  tree : IsFrameTree s (is_stacked s) (is_held s) nodes
  tree = after.after.shows.keeps.tree

  made : (key : ℕ) (n : FrameNode) → nodes key ≡ Some n → 1 ≤ n.activation
  made key n there = (tree.made n.activation (tree.shown key n there).out_is).0

  -- the parent of one that has a node has one too, and a lower number
  module _ (key : ℕ) (n : FrameNode) (there : nodes key ≡ Some n) where
    pub above-there : (above : ℕ) → n.parent ≡ Some above → (m : FrameNode) × (nodes above ≡ Some m) × (m.activation < n.activation)
    above-there above e = by (nodes above) refl (ap (activation_under nodes) (sym e) ∙ (tree.shown key n there).parent_is) where
      by : (o : Option FrameNode) → nodes above ≡ o → option_map (λ (z : FrameNode). Some z.activation) o ≡ Some (parent_of s n.activation)
          → (m : FrameNode) × (nodes above ≡ Some m) × (m.activation < n.activation)
      by None is h = absurd (none-some (parent_of s n.activation) h)
      by (Some m) is h =
          let parent : parent_of s n.activation ≡ Some m.activation = sym (same_Some (Some m.activation) (parent_of s n.activation) h) in
          (m, is, (run_older program choices n.activation m.activation parent).1)

    module _ (up : Option ℕ) (is : up ≡ n.parent) where
      pub up-there : HasNode nodes up
      up-there above e = let found = above-there above (sym is ∙ e) in (found.0, found.1)

      pub up-lower : activation_at nodes up < n.activation
      up-lower = by up is where
        by : (o : Option ℕ) → o ≡ n.parent → activation_at nodes o < n.activation
        by None e = omega (arith, made key n there)
        by (Some above) e =
            let found = above-there above (sym e) in
            let same = activation-there nodes (Some above) above found.0 refl found.1 in
            omega (arith, found.2, same)

  -- from each node all are found up to the last one
  climb-from : (k key : ℕ) (n : FrameNode) → nodes key ≡ Some n → n.activation ≤ k → (ns : List ℕ) × IsClimb nodes (Some key) ns
  climb-from zero key n there few = absurd (omega (arith, made key n there, few))
  climb-from (suc k) key n there few = by n.parent refl (λ y z e le. climb-from k y z e le) where
    by : (o : Option ℕ) → n.parent ≡ o → ((y : ℕ) (z : FrameNode) → nodes y ≡ Some z → z.activation ≤ k → (ns : List ℕ) × IsClimb nodes (Some y) ns)
        → (ns : List ℕ) × IsClimb nodes (Some key) ns
    by None e rest = (n.activation ∷ [], (n, there, refl, subst (λ (o : Option ℕ). IsClimb nodes o []) (sym e) tt))
    by (Some y) e rest =
        let up = above-there key n there y e in
        let more = rest y up.0 up.1 (omega (arith, up.2, few)) in
        (n.activation ∷ more.0, (n, there, refl, subst (λ (o : Option ℕ). IsClimb nodes o more.0) (sym e) more.1))

  pub climb-there : (key : ℕ) (n : FrameNode) → nodes key ≡ Some n → (ns : List ℕ) × IsClimb nodes (Some key) ns
  climb-there key n there = climb-from n.activation key n there (omega arith)

  -- ---- the ancestry

  climb-is : (ns : List ℕ) (n key : ℕ) (x : FrameNode) → nodes key ≡ Some x → x.activation ≤ n → IsClimb nodes (Some key) ns → ns ≡ ancestry s n x.activation
  climb-is [] n key x there few h = absurd h
  climb-is (a ∷ ns) zero key x there few h = absurd (omega (arith, made key x there, few))
  climb-is (a ∷ ns) (suc n) key x there few h =
      let same : h.0 ≡ x = same_Some h.0 x (sym h.1 ∙ there) in
      let first : a ≡ x.activation = sym h.2 ∙ ap (λ (z : FrameNode). z.activation) same in
      let rest = by x.parent (subst (λ (z : FrameNode). IsClimb nodes z.parent ns) same h.3) (tree.shown key x there).parent_is (λ k y e le climb. climb-is ns n k y e le climb) in
      λ i. first i ∷ rest i
    where
      by : (o : Option ℕ) → IsClimb nodes o ns → activation_under nodes o ≡ Some (parent_of s x.activation)
          → ((k : ℕ) (y : FrameNode) → nodes k ≡ Some y → y.activation ≤ n → IsClimb nodes (Some k) ns → ns ≡ ancestry s n y.activation)
          → ns ≡ option_map_or (λ b. ancestry s n b) (parent_of s x.activation) []
      by None climb e later =
          nothing-above nodes ns climb ∙ ap (λ (o : Option ℕ). option_map_or (λ b. ancestry s n b) o []) (same_Some None (parent_of s x.activation) e)
      by (Some k) climb e later =
          let found = node-of nodes k ns climb in
          let parent : parent_of s x.activation ≡ Some found.0.activation = sym (same_Some (Some found.0.activation) (parent_of s x.activation) (sym (ap (option_map (λ (z : FrameNode). Some z.activation)) found.1) ∙ e)) in
          let older = run_older program choices x.activation found.0.activation parent in
          later k found.0 found.1 (omega (arith, older.1, few)) climb
          ∙ ap (λ (o : Option ℕ). option_map_or (λ b. ancestry s n b) o []) (sym parent)

  pub climbed : (key : ℕ) (x : FrameNode) (ns : List ℕ) → nodes key ≡ Some x → IsClimb nodes (Some key) ns → ns ≡ ancestry s x.activation x.activation
  climbed key x ns there h = climb-is ns x.activation key x there (omega arith) h

  -- ---- whether one is among it

  -- where the climb has met none of that number below a node whose activation is that one or was made before it
  pub met-there : (a key at : ℕ) (next : Option ℕ) (x y : FrameNode) → MeetsFrom nodes a key next → next ≡ Some at → nodes at ≡ Some y → y.activation ≤ a → nodes key ≡ Some x
      → nat_eq y.activation a ≡ is_number_among a (ancestry s x.activation x.activation)
  met-there a key at next x y so_far is found le there =
      let up = climb-there at y found in
      let all = so_far up.0 (subst (λ (o : Option ℕ). IsClimb nodes o up.0) (sym is) up.1) in
      sym (
      ap (is_number_among a) (sym (climbed key x all.0 there all.1))
      ∙ all.2
      ∙ ap (is_number_among a) (climbed at y up.0 found up.1)
      ∙ first-among program choices y.activation a (made at y found) le
      )

  pub met-nowhere : (a key : ℕ) (next : Option ℕ) (x : FrameNode) → MeetsFrom nodes a key next → next ≡ None → nodes key ≡ Some x
      → false ≡ is_number_among a (ancestry s x.activation x.activation)
  met-nowhere a key next x so_far none there =
      let all = meets-none nodes a key next so_far none in
      sym (ap (is_number_among a) (sym (climbed key x all.0 there all.1)) ∙ all.2)
