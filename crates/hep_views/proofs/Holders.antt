-- Upwards from an activation the node of the one is found whose frame has a cell.
use Rattle.std.proofs.Common.{◌≡◌, inl, inr, ℕ, zero, suc, ◌+◌, ◌-◌, ◌<◌, ◌≤◌, Bool, true, false, Option, Some, None, refl, sym, ap, ◌∙◌, subst, arith, IsSome, if◌then◌else◌, nat_eq}
use Rattle.std.specs.Option.{option_map, option_map_or}
use Rattle.std.proofs.lemmas.Bool.{eqb-false, eqb-true}
use Rattle.std.proofs.lemmas.Bool.Decides.{nat_tests}
use Rattle.std.proofs.lemmas.Option.{none-some, same_Some}
use Rattle.hep_machine.specs.Words.{Frame, Layout, StandApart, parent_of, State}
use Rattle.hep_arena.specs.Gaps.{frame_among}
use Rattle.hep_layout.specs.Words.{IsAbove, AreFramed, IsFrameTree, FrameNode, Nodes, activation_under}
use Rattle.hep_layout.proofs.Frames.{apart-frames}
use Rattle.hep_views.specs.Nodes.{parent_in}
use Rattle.hep_views.specs.CellOwners.{has_among, has_cell, holder_above}
use Rattle.hep_views.proofs.UpwardOwners.{above-parent}

-- ---- cells of a node

pub within : (n : FrameNode) (cell : ℕ) → n.first ≤ cell → cell < n.first + n.cells → has_cell n cell ≡ true
within n cell low high = grind (arith, nat_tests)

without : (n : FrameNode) (cell : ℕ) → (n.first ≤ cell → cell < n.first + n.cells → ⊥) → has_cell n cell ≡ false
without n cell none = grind (arith, nat_tests)

-- ---- the node of a parent

-- the key of an activation's node
record IsUnder (nodes : Nodes) (o : Option ℕ) (a : ℕ) : Type 0 where
  key : ℕ
  node : FrameNode
  is : o ≡ Some key
  there : nodes key ≡ Some node
  activation : node.activation ≡ a

under-parts : (nodes : Nodes) (o : Option ℕ) (a : ℕ) → activation_under nodes o ≡ Some (Some a) → IsUnder nodes o a
under-parts nodes None a e = absurd (none-some a (same_Some None (Some a) e))
under-parts nodes (Some key) a e = by_node (nodes key) refl e where
  by_node : (o : Option FrameNode) → nodes key ≡ o → option_map (λ (x : FrameNode). Some x.activation) o ≡ Some (Some a) → IsUnder nodes (Some key) a
  by_node None there h = absurd (none-some (Some a) h)
  by_node (Some x) there h =
      record { key = key; node = x; is = refl; there = there; activation = same_Some x.activation a (same_Some (Some x.activation) (Some a) h) }

-- ---- upwards

-- the node of an activation is found
pub record IsHolder (nodes : Nodes) (cell n key a : ℕ) : Type 0 where
  pub at : ℕ
  pub node : FrameNode
  pub found : holder_above nodes cell n key ≡ Some at
  pub there : nodes at ≡ Some node
  pub activation : node.activation ≡ a

module _ (nodes : Nodes) (cell n key : ℕ) (y : FrameNode) (there : nodes key ≡ Some y) where
  -- one step
  holder-here : has_cell y cell ≡ true → holder_above nodes cell (suc n) key ≡ Some key
  holder-here has =
      ap (λ o. if has_among cell o then Some key else option_map_or (holder_above nodes cell n) (parent_in o) None) there
      ∙ ap (λ b. if b then Some key else option_map_or (holder_above nodes cell n) y.parent None) has

  holder-parent : (above : ℕ) → has_cell y cell ≡ false → y.parent ≡ Some above
      → holder_above nodes cell (suc n) key ≡ holder_above nodes cell n above
  holder-parent above has parent =
      ap (λ o. if has_among cell o then Some key else option_map_or (holder_above nodes cell n) (parent_in o) None) there
      ∙ (ap (λ b. if b then Some key else option_map_or (holder_above nodes cell n) y.parent None) has
      ∙ ap (λ o. option_map_or (holder_above nodes cell n) o None) parent)

-- the node of an activation has its frame
pub framed-so : (layout : Layout) (nodes : Nodes) (framed : AreFramed layout nodes) (a key : ℕ) (f : Frame) (y : FrameNode)
    → frame_among a layout ≡ Some f → nodes key ≡ Some y → y.activation ≡ a → (y.first ≡ f.first) × (y.cells ≡ f.cells)
framed-so layout nodes framed a key f y frame there is =
    let same : record { activation = y.activation; first = y.first; cells = y.cells } ≡ f =
    same_Some (record { activation = y.activation; first = y.first; cells = y.cells }) f (
    sym (framed key y there) ∙ (ap (λ b. frame_among b layout) is ∙ frame)) in
    (ap (λ (z : Frame). z.first) same, ap (λ (z : Frame). z.cells) same)

module _ (s : State) (on out : ℕ → Bool) (nodes : Nodes) (tree : IsFrameTree s on out nodes)
    (older : (c b : ℕ) → parent_of s c ≡ Some b → b < c)
    (cells from : ℕ) (layout : Layout) (apart : StandApart cells from layout) (framed : AreFramed layout nodes)
    (cell a : ℕ) (f : Frame) (frame : frame_among a layout ≡ Some f) (low : f.first ≤ cell) (high : cell < f.first + f.cells) where
  own-cell : (key : ℕ) (y : FrameNode) → nodes key ≡ Some y → y.activation ≡ a → has_cell y cell ≡ true
  own-cell key y there is =
      let same = framed-so layout nodes framed a key f y frame there is in
      within y cell (omega (arith, same.0, low)) (omega (arith, same.0, same.1, high))

  -- no other frame has the cell
  other-cell : (key : ℕ) (y : FrameNode) → nodes key ≡ Some y → (y.activation ≡ a → ⊥) → has_cell y cell ≡ false
  other-cell key y there other =
      let own : Frame = record { activation = y.activation; first = y.first; cells = y.cells } in
      without y cell (λ above below. elim (apart-frames cells from y.activation a layout own f apart (framed key y there) frame) [
        | inl same ↦ other same
        | inr sides ↦ elim sides [ inl le ↦ omega (arith, le, low, below) | inr le ↦ omega (arith, le, high, above) ]
      ])

  pub holder-found : (n key : ℕ) (y : FrameNode) → nodes key ≡ Some y → y.activation ≤ n → IsAbove s a y.activation → IsHolder nodes cell n key a
  holder-found zero key y there few above =
      absurd (let one = (tree.made y.activation (tree.shown key y there).out_is).0 in omega (arith, one, few))
  holder-found (suc n) key y there few above = by_owner (holder-found n) (nat_eq y.activation a) refl where
    by_owner : ((k : ℕ) (z : FrameNode) → nodes k ≡ Some z → z.activation ≤ n → IsAbove s a z.activation → IsHolder nodes cell n k a)
        → (b : Bool) → nat_eq y.activation a ≡ b → IsHolder nodes cell (suc n) key a
    by_owner rest true t =
        let is = eqb-true y.activation a t in
        let found = holder-here nodes cell n key y there (own-cell key y there is) in
        record { at = key; node = y; found = found; there = there; activation = is }
    by_owner rest false t =
        let other = eqb-false y.activation a t in
        let up = above-parent s a y.activation other above in
        let under = under-parts nodes y.parent up.0 ((tree.shown key y there).parent_is ∙ ap (λ p. Some p) up.1) in
        let less = older y.activation up.0 up.1 in
        let is = under.activation in
        let holder = rest under.key under.node under.there (omega (arith, few, less, is)) (subst (IsAbove s a) (sym is) up.2) in
        record {
          at = holder.at;
          node = holder.node;
          found = holder-parent nodes cell n key y there under.key (other-cell key y there other) under.is ∙ holder.found;
          there = holder.there;
          activation = holder.activation;
        }

-- ---- a step of the walk

-- where a node is found there is one under the key
there-by : (nodes : Nodes) (cell n key : ℕ) → IsSome (holder_above nodes cell n key) → (y : FrameNode) × (nodes key ≡ Some y)
there-by nodes cell zero key some = absurd cc
there-by nodes cell (suc n) key some = by_node (nodes key) refl some where
  by_node : (o : Option FrameNode) → nodes key ≡ o
      → IsSome (if has_among cell o then Some key else option_map_or (holder_above nodes cell n) (parent_in o) None) → (y : FrameNode) × (nodes key ≡ Some y)
  by_node None e h = absurd cc
  by_node (Some y) e h = (y, e)

module _ (nodes : Nodes) (cell most counter key : ℕ) (less : counter < most) (has : Bool)
    (tells : (n : FrameNode) → nodes key ≡ Some n → has ≡ has_cell n cell) (some : IsSome (holder_above nodes cell (most - counter) key)) where
  left : most - counter ≡ suc (most - (counter + 1))
  left = omega (arith, less)

  pub walk-ends : has ≡ true → holder_above nodes cell (most - counter) key ≡ Some key
  walk-ends t =
      let y = there-by nodes cell (most - counter) key some in
      ap (λ n. holder_above nodes cell n key) left ∙ holder-here nodes cell (most - (counter + 1)) key y.0 y.1 (sym (tells y.0 y.1) ∙ t)

  pub walk-goes_on : (o : Option ℕ) (above : ℕ) → ((n : FrameNode) → nodes key ≡ Some n → o ≡ n.parent) → o ≡ Some above → has ≡ false
      → holder_above nodes cell (most - (counter + 1)) above ≡ holder_above nodes cell (most - counter) key
  walk-goes_on o above parents is t =
      let y = there-by nodes cell (most - counter) key some in
      sym (ap (λ n. holder_above nodes cell n key) left
      ∙ holder-parent nodes cell (most - (counter + 1)) key y.0 y.1 above (sym (tells y.0 y.1) ∙ t) (sym (parents y.0 y.1) ∙ is))
