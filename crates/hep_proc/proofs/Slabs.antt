-- What the calls of a slab make of the nodes that it shows.
use Rattle.std.proofs.Common.{◌≡◌, ℕ, Bool, true, false, List, [], ◌∷◌, Option, Some, None, if◌then◌else◌, nat_eq, IsSome, slice_index_or}
use Rattle.std.proofs.Common.{refl, sym, ap, ◌∙◌}
use Rattle.std.specs.List.{AllZip}
use Rattle.std.specs.Option.{option_map}
use Rattle.std.proofs.lemmas.Bool.{eqb-true, eqb-false}
use Rattle.std.proofs.lemmas.Option.{same_Some, none-some}
use Rattle.slab.specs.Slab.{IsSlabClone, IsSlotClone, Slab, get, Updates}
use Rattle.hep_layout.specs.Words.{first_nodes, is_just, Nodes, with_node, with_one_less, with_one_more, without_node, FrameNode}
use Rattle.hep_proc.specs.declared.nodes.Node.{Node}
use Rattle.hep_proc.specs.Nodes.{HasChildren, IsCountedAbove, nodes_of, shown, with_more}

-- nodes that agree under each key are the same
pub one-tree : (m n : Nodes) → ((k : ℕ) → m k ≡ n k) → m ≡ n
one-tree m n h = λ i k. h k i

pub shown-at : (s : Slab Node) (k : ℕ) (r : Node) → get s k ≡ Some r → nodes_of s k ≡ Some (shown r)
shown-at s k r e = ap (λ o. option_map shown o) e

-- a key with a value has a node
pub node-there : (s : Slab Node) (k : ℕ) → IsSome (get s k) → (n : FrameNode) × (nodes_of s k ≡ Some n)
node-there s k h = by_node (get s k) h where
  by_node : (o : Option Node) → IsSome o → (n : FrameNode) × (option_map shown o ≡ Some n)
  by_node None g = absurd cc
  by_node (Some r) g = (shown r, refl)

-- ---- the slab is cloned

-- so are its slots
slots-cloned : (slots clones : List (Option Node)) → AllZip (IsSlotClone (λ node clone. clone ≡ node)) slots clones → clones ≡ slots
slots-cloned [] [] h = refl
slots-cloned (None ∷ slots) (clone ∷ clones) h = λ i. h.0 i ∷ slots-cloned slots clones h.1 i
slots-cloned (Some node ∷ slots) (Some clone ∷ clones) h = λ i. Some (h.0 i) ∷ slots-cloned slots clones h.1 i
slots-cloned (Some node ∷ slots) (None ∷ clones) h = absurd h.0
slots-cloned [] (clone ∷ clones) h = absurd h
slots-cloned (slot ∷ slots) [] h = absurd h

-- the same nodes are under the same keys
pub nodes-cloned : (s clone : Slab Node) → IsSlabClone (λ node clone. clone ≡ node) s clone → nodes_of clone ≡ nodes_of s
nodes-cloned s clone h = λ i key. option_map shown (slice_index_or (slots-cloned s.slots clone.slots h.slots i) key None)

-- ---- a node is removed

removed-other : (old mid : Slab Node) (k l : ℕ) → Updates old mid k None → nat_eq l k ≡ false → nodes_of mid l ≡ nodes_of old l
removed-other old mid k l u e = ap (λ o. option_map shown o) (u.others l (eqb-false l k e))

removed-there : (old mid : Slab Node) (k : ℕ) → Updates old mid k None → nodes_of mid k ≡ None
removed-there old mid k u = ap (λ o. option_map shown o) u.changed

pub removed-counts : (old mid : Slab Node) (k above : ℕ) (r : Node) → get old k ≡ Some r → Updates old mid k None → r.parent ≡ Some above → IsCountedAbove (nodes_of old) k → HasChildren (nodes_of mid) above
removed-counts old mid k above r e u f h n g =
    let both = h (shown r) above (shown-at old k r e) f in
    both.1 n (sym (removed-other old mid k above u both.0) ∙ g)

pub given-parent : (old : Slab Node) (k : ℕ) (r : Node) → get old k ≡ Some r → (n : FrameNode) → nodes_of old k ≡ Some n → r.parent ≡ n.parent
given-parent old k r e n g = ap (λ (z : FrameNode). z.parent) (same_Some (shown r) n (sym (shown-at old k r e) ∙ g))

-- it had none
pub given-first : (old mid : Slab Node) (k : ℕ) (r : Node) → get old k ≡ Some r → Updates old mid k None → r.parent ≡ None → (n : FrameNode) → nodes_of old k ≡ Some n → (l : ℕ) → nodes_of mid l ≡ without_node (nodes_of old) k n l
given-first old mid k r e u f n g l = by_key (nat_eq l k) refl where
  by_key : (b : Bool) → nat_eq l k ≡ b → nodes_of mid l ≡ (if b then None else (if is_just l n.parent then option_map with_one_less (nodes_of old l) else nodes_of old l))
  by_key true d = ap (nodes_of mid) (eqb-true l k d) ∙ removed-there old mid k u
  by_key false d =
      removed-other old mid k l u d
      ∙ ap (λ b. if b then option_map with_one_less (nodes_of old l) else nodes_of old l) (sym (ap (is_just l) (sym (given-parent old k r e n g) ∙ f)))

-- ---- a node is added

-- the first one
pub opened-nodes : (old new : Nodes) (v unit first cells : ℕ) → ((k : ℕ) → old k ≡ None)
    → new v ≡ Some (record { activation = 1; unit = unit; first = first; cells = cells; parent = None; children = 0; finished = false }) → ((k : ℕ) → nat_eq k v ≡ false → new k ≡ old k)
    → new ≡ first_nodes v unit first cells
opened-nodes old new v unit first cells none there others = one-tree new (first_nodes v unit first cells) (λ k. by_key k (nat_eq k v) refl) where
  by_key : (k : ℕ) (b : Bool) → nat_eq k v ≡ b → new k ≡ (if b then Some (record { activation = 1; unit = unit; first = first; cells = cells; parent = None; children = 0; finished = false }) else None)
  by_key k true e = ap new (eqb-true k v e) ∙ there
  by_key k false e = others k e ∙ none k

-- a child of another one, which has one more
pub entered-nodes : (old mid new : Nodes) (v k : ℕ) (n : FrameNode) → old v ≡ None → IsSome (old k) → mid v ≡ Some n → ((l : ℕ) → nat_eq l v ≡ false → mid l ≡ old l) → ((l : ℕ) → new l ≡ with_more mid k l)
    → new ≡ with_node old v n k
entered-nodes old mid new v k n free owner there others more = one-tree new (with_node old v n k) (λ l. more l ∙ by_key l (nat_eq l v) refl) where
  apart : nat_eq v k ≡ false
  apart = by_test (nat_eq v k) refl where
    by_test : (b : Bool) → nat_eq v k ≡ b → b ≡ false
    by_test true e = absurd (none-there (sym (ap old (eqb-true v k e)) ∙ free) owner) where
      none-there : old k ≡ None → IsSome (old k) → ⊥
      none-there d h = cc
    by_test false e = refl

  by_key : (l : ℕ) (b : Bool) → nat_eq l v ≡ b → with_more mid k l ≡ (if b then Some n else (if nat_eq l k then option_map with_one_more (old l) else old l))
  by_key l true e =
      let other : nat_eq l k ≡ false = ap (λ m. nat_eq m k) (eqb-true l v e) ∙ apart in
      rw other (ap mid (eqb-true l v e) ∙ there)
  by_key l false e = ap (λ (o : Option FrameNode). if nat_eq l k then option_map with_one_more o else o) (others l e)

-- and a node stands for a value
pub key-there : (s : Slab Node) (k : ℕ) (n : FrameNode) → nodes_of s k ≡ Some n → IsSome (nodes_of s k)
key-there s k n e = by_node (nodes_of s k) e where
  by_node : (o : Option FrameNode) → o ≡ Some n → IsSome o
  by_node None d = absurd (none-some n d)
  by_node (Some r) d = refl

-- where there is a node, there is a value
pub value-there : (s : Slab Node) (k : ℕ) → (nodes_of s k ≡ None → ⊥) → IsSome (get s k)
value-there s k h = by_value (get s k) refl where
  by_value : (o : Option Node) → get s k ≡ o → IsSome o
  by_value None e = absurd (h (ap (λ z. option_map shown z) e))
  by_value (Some r) e = refl

pub some-value : (s : Slab Node) (k : ℕ) (n : FrameNode) → nodes_of s k ≡ Some n → IsSome (get s k)
some-value s k n e = value-there s k (λ none. none-some n (sym none ∙ e))
