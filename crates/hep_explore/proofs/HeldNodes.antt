-- What a machine keeps of a state, read by the keys of its nodes.
use Rattle.std.proofs.Common.{◌≡◌, ℕ, zero, suc, ◌+◌, ◌-◌, ◌<◌, ◌≤◌, true, false, true≢false, List, [], ◌∷◌, ◌++◌, length}
use Rattle.std.proofs.Common.{map, Option, Some, None, refl, sym, ap, ◌∙◌, arith, slice_get, get_or, take}
use Rattle.std.specs.Option.{option_map, unwrap_or}
use Rattle.std.specs.List.{flat_map}
use Rattle.std.proofs.lemmas.Option.{none-some, same_Some, slice_get-get_or}
use Rattle.hep_machine.specs.Words.{Process, State, Units, Value, activations_on, common_cells, is_held, is_number_among}
use Rattle.hep_machine.specs.Words.{parent_of, run}
use Rattle.hep_layout.specs.Words.{FrameNode, IsFrameTree, activation_under, is_stacked}
use Rattle.hep_layout.proofs.Frames.{among}
use Rattle.hep_proc.specs.declared.process.Local.{Local}
use Rattle.hep_proc.specs.Stacks.{Stack}
use Rattle.hep_state.specs.Words.{AreThere, IsAfter, Snapshot, node_under}
use Rattle.hep_state.proofs.SettledPositions.{AreStanding, AreStandingBelow, IsHere, stack-standing}
use Rattle.hep_state.proofs.TopActivations.{numbered-there}
use Rattle.hep_views.proofs.Nodes.{unheld}
use Rattle.hep_state_text.specs.NodeKeys.{AreHeldKeys}
use Rattle.hep_explore.specs.Contents.{HeldLevel, HeldStack, activation_at, held_stack, keys_among, level_of}
use Rattle.hep_explore.specs.Contents.{number_at}

-- ---- keys that are there

-- where a key is listed
pub among-listed : (keys : List (Option ℕ)) (i key : ℕ) → slice_get keys i ≡ Some (Some key)
    → (j : ℕ) × (slice_get (keys_among keys) j ≡ Some key)
among-listed [] i key e = absurd (none-some (Some key) e)
among-listed (None ∷ keys) zero key e = absurd (none-some key (same_Some None (Some key) e))
among-listed (Some k ∷ keys) zero key e = (0, same_Some (Some k) (Some key) e)
among-listed (None ∷ keys) (suc i) key e = among-listed keys i key e
among-listed (Some k ∷ keys) (suc i) key e = let r = among-listed keys i key e in (suc r.0, r.1)

-- which key is listed
pub listed-among : (keys : List (Option ℕ)) (j key : ℕ) → slice_get (keys_among keys) j ≡ Some key
    → (i : ℕ) × (slice_get keys i ≡ Some (Some key))
listed-among [] j key e = absurd (none-some key e)
listed-among (None ∷ keys) j key e = let r = listed-among keys j key e in (suc r.0, r.1)
listed-among (Some k ∷ keys) zero key e = (0, ap (λ o. Some o) e)
listed-among (Some k ∷ keys) (suc j) key e = let r = listed-among keys j key e in (suc r.0, r.1)

-- ---- a machine

-- a number as that of a parent, if it isn't 0
abbrev pub optional : ℕ → Option ℕ
optional zero = None
optional (suc n) = Some (suc n)

-- that of a number above 0
pub optional-some : (n : ℕ) → 1 ≤ n → optional n ≡ Some n
optional-some zero some = absurd (omega (arith, some))
optional-some (suc n) some = refl

-- the activations on a stack
abbrev pub stack_numbers : HeldStack → List ℕ
stack_numbers k = map (λ (l : HeldLevel). l.activation) k.levels

-- it keeps a state of a program, and these are the keys of its nodes
pub record IsHeld (program : Units) (cells : ℕ) (m : Snapshot) : Type 0 where
  pub choices : List ℕ
  pub after : IsAfter program cells choices m
  pub keys : List (Option ℕ)
  pub held : AreHeldKeys m keys

module _ {program : Units} {cells : ℕ} {m : Snapshot} (x : IsHeld program cells m) where
  abbrev h : IsAfter program cells x.choices m
  h = x.after

  abbrev keys : List (Option ℕ)
  keys = x.keys

  abbrev held : AreHeldKeys m x.keys
  held = x.held

  abbrev s : State
  s = run program x.choices

  abbrev tree : IsFrameTree s (is_stacked s) (is_held s) m.nodes
  tree = h.shows.keeps.tree

  pub node-under : (key : ℕ) (n : FrameNode) → m.nodes key ≡ Some n → node_under m.nodes key ≡ n
  node-under key n there = ap (λ o. unwrap_or o (node_under (λ k. None) 0)) there

  pub activation-at : (key : ℕ) (n : FrameNode) → m.nodes key ≡ Some n → activation_at m.nodes key ≡ n.activation
  activation-at key n there = ap (λ (y : FrameNode). y.activation) (node-under key n there)

  pub made : (key : ℕ) (n : FrameNode) → m.nodes key ≡ Some n → (1 ≤ n.activation) × (n.activation ≤ length s.activations)
  made key n there = tree.made n.activation (tree.shown key n there).out_is

  -- its frame lies in the arena
  pub inside : (key : ℕ) (n : FrameNode) → m.nodes key ≡ Some n → n.first + n.cells ≤ length m.arena.contents
  inside key n there =
      (among (length m.arena.contents) (common_cells program) n.activation h.layout _ h.shows.keeps.memory.laid.apart (
      h.shows.keeps.framed key n there)).inside

  -- ---- the keys of all nodes

  -- that of a node is at the number of its activation
  pub key-at : (key : ℕ) (n : FrameNode) → m.nodes key ≡ Some n → slice_get keys (n.activation - 1) ≡ Some (Some key)
  key-at key n there =
      let least = (made key n there).0 in
      let most = (made key n there).1 in
      let next : suc (n.activation - 1) ≡ n.activation = omega (arith, least) in
      let less : n.activation - 1 < length keys = omega (arith, least, most, held.count, h.shows.activations) in
      by_key (n.activation - 1) next (get_or keys (n.activation - 1) None) (slice_get-get_or keys (n.activation - 1) None less)
    where
      by_key : (i : ℕ) → suc i ≡ n.activation → (o : Option ℕ) → slice_get keys i ≡ Some o → slice_get keys i ≡ Some (Some key)
      by_key i next None e =
          let none = unheld program cells x.choices m h (suc i) (held.others i e) in
          absurd (true≢false (sym (tree.shown key n there).out_is ∙ ap (is_held s) (sym next) ∙ none))
      by_key i next (Some k) e =
          let other = held.noted i k e in
          e ∙ ap (λ z. Some (Some z)) (tree.single k key other.0 n other.1 there (other.2 ∙ next))

  pub listed : (key : ℕ) (n : FrameNode) → m.nodes key ≡ Some n → (j : ℕ) × (slice_get (keys_among keys) j ≡ Some key)
  listed key n there = among-listed keys (n.activation - 1) key (key-at key n there)

  pub node-listed : (j key : ℕ) → slice_get (keys_among keys) j ≡ Some key → (n : FrameNode) × (m.nodes key ≡ Some n)
  node-listed j key e =
      let at = listed-among keys j key e in
      let node = held.noted at.0 key at.1 in
      (node.0, node.1)

  -- ---- parents

  -- the parent of a held activation is that of its node
  pub parent-number : (key : ℕ) (n : FrameNode) → m.nodes key ≡ Some n → parent_of s n.activation ≡ optional (number_at m.nodes n.parent)
  parent-number key n there = by_parent n.parent (tree.shown key n there).parent_is where
    by_node : (above : ℕ) (o : Option FrameNode) → m.nodes above ≡ o
        → option_map (λ (y : FrameNode). Some y.activation) o ≡ Some (parent_of s n.activation)
        → parent_of s n.activation ≡ optional (activation_at m.nodes above)
    by_node above None is e = absurd (none-some (parent_of s n.activation) e)
    by_node above (Some y) is e =
        sym (same_Some (Some y.activation) (parent_of s n.activation) e) ∙ sym (optional-some y.activation (made above y is).0)
        ∙ ap optional (sym (activation-at above y is))

    by_parent : (o : Option ℕ) → activation_under m.nodes o ≡ Some (parent_of s n.activation)
        → parent_of s n.activation ≡ optional (number_at m.nodes o)
    by_parent None e = sym (same_Some None (parent_of s n.activation) e)
    by_parent (Some above) e = by_node above (m.nodes above) refl e

  -- the parent's node is there
  pub parent-there : (key above : ℕ) (n : FrameNode) → m.nodes key ≡ Some n → n.parent ≡ Some above
      → (y : FrameNode) × (m.nodes above ≡ Some y)
  parent-there key above n there parent =
      by_node (m.nodes above) refl (ap (activation_under m.nodes) (sym parent) ∙ (tree.shown key n there).parent_is)
    where
      by_node : (o : Option FrameNode) → m.nodes above ≡ o
          → option_map (λ (y : FrameNode). Some y.activation) o ≡ Some (parent_of s n.activation)
          → (y : FrameNode) × (m.nodes above ≡ Some y)
      by_node None is e = absurd (none-some (parent_of s n.activation) e)
      by_node (Some y) is e = (y, is)

  -- ---- stacks

  here-number : (l : Local) (a : ℕ) → IsHere program s m.nodes l a → activation_at m.nodes l.key ≡ a
  here-number l a here = activation-at l.key here.node here.there ∙ sym here.activation

  abbrev numbers_on : List Local → List ℕ
  numbers_on ls = map (λ (l : HeldLevel). l.activation) (map (level_of m.nodes) ls)

  below-numbers : (above : ℕ) (pending : List Value) (ls : List Local) (q : Process) → AreStandingBelow program s m.nodes above pending ls q
      → numbers_on ls ≡ activations_on q
  below-numbers above pending [] [] e = refl
  below-numbers above pending (l ∷ ls) (level ∷ levels) e =
      let first = here-number l level.activation e.0.here in
      let rest = below-numbers l.unit (take (length pending - l.kept) pending) ls levels e.1 in
      λ i. first i ∷ rest i
  below-numbers above pending [] (level ∷ levels) e = absurd e
  below-numbers above pending (l ∷ ls) [] e = absurd e

  standing-numbers : (operands pending : List Value) (ls : List Local) (q : Process) → AreStanding program s m.nodes operands pending ls q
      → numbers_on ls ≡ activations_on q
  standing-numbers operands pending [] [] e = refl
  standing-numbers operands pending (l ∷ ls) (level ∷ levels) e =
      let first = here-number l level.activation e.0.here in
      let rest = below-numbers l.unit pending ls levels e.1 in
      λ i. first i ∷ rest i
  standing-numbers operands pending [] (level ∷ levels) e = absurd e
  standing-numbers operands pending (l ∷ ls) [] e = absurd e

  stacks-numbers : (ks : List Stack) (qs : List Process) → length ks ≡ length qs
      → ((i : ℕ) (k : Stack) (q : Process) → slice_get ks i ≡ Some k → slice_get qs i ≡ Some q → numbers_on k.levels ≡ activations_on q)
      → flat_map stack_numbers (map (held_stack m.nodes) ks) ≡ flat_map activations_on qs
  stacks-numbers [] [] long e = refl
  stacks-numbers (k ∷ ks) (q ∷ qs) long e =
      let first = e 0 k q refl refl in
      let rest = stacks-numbers ks qs (omega (arith, long)) (λ i j r f g. e (suc i) j r f g) in
      λ i. first i ++ rest i
  stacks-numbers [] (q ∷ qs) long e = absurd (omega (arith, long))
  stacks-numbers (k ∷ ks) [] long e = absurd (omega (arith, long))

  -- an activation is on a stack where a level has its number
  pub stacked-by-levels : (a : ℕ) → is_stacked s a ≡ is_number_among a (flat_map stack_numbers (map (held_stack m.nodes) m.processes))
  stacked-by-levels a =
      ap (is_number_among a) (sym (stacks-numbers m.processes s.processes h.shows.processes (λ i k q f g.
      standing-numbers k.operands k.pending k.levels q (
      stack-standing program s m.nodes m.arena.contents k q (h.shows.stacks (suc i) k q f g)))))

  -- the nodes of its levels are there
  pub levels-there : (i : ℕ) (k : Stack) → slice_get m.processes i ≡ Some k → AreThere program m.nodes k.levels
  levels-there i k e =
      let q = numbered-there m.processes s.processes (suc i) k h.shows.processes e in
      (h.shows.stacks (suc i) k q.0 e q.1).there
