-- The node that is found for an activation, from the keys of the levels upwards: it is there for those that are held and for no other, with its frame.
use Rattle.std.proofs.Common.{◌≡◌, inl, inr, ℕ, zero, suc, ◌+◌, ◌≤◌, ◌-◌, Bool, true, false, List, [], ◌∷◌, ◌++◌, length, take, refl, sym, ap, ◌∙◌, arith, Option, Some, None, true≢false, if◌then◌else◌, is_some, nat_eq, slice_get}
use Rattle.std.specs.List.{flat_map}
use Rattle.std.specs.Option.{option_map_or, option_or}
use Rattle.std.proofs.lemmas.Bool.{cases_Bool, eqb-true, eq-eqb, or_cases}
use Rattle.std.proofs.lemmas.Option.{same_Some, none-some}
use Rattle.hep_machine.specs.Words.{Value, Units, IsOnStack, activations_on, is_held, is_number_among, parent_of, activation_of, numbered, run, Process, State}
use Rattle.hep_machine.proofs.Ages.{run_older}
use Rattle.hep_machine.proofs.Held.{held_is}
use Rattle.hep_layout.specs.Words.{IsFrameTree, FrameNode, Nodes, is_stacked}
use Rattle.hep_layout.proofs.FrameTree.{under-parts}
use Rattle.hep_proc.specs.declared.process.Local.{Local}
use Rattle.hep_proc.specs.Stacks.{keys_of, Stack}
use Rattle.hep_state.specs.Words.{Snapshot, IsAfter}
use Rattle.hep_state.proofs.SettledPositions.{AreStanding, AreStandingBelow, IsHere, stack-standing}
use Rattle.hep_views.specs.Nodes.{is_of, node_above, node_among, parent_in, node_of}
use Rattle.hep_arena.specs.Gaps.{frame_among}

-- ---- what is found

-- a node that is there, of that activation
abbrev pub IsNodeOf : Nodes → ℕ → FrameNode → Type 0
IsNodeOf nodes a x = (key : ℕ) × (nodes key ≡ Some x) × (x.activation ≡ a)

module _ (nodes : Nodes) (a : ℕ) where
  above-of : (n key : ℕ) (x : FrameNode) → node_above nodes a n key ≡ Some x → IsNodeOf nodes a x
  above-of zero key x e = absurd (none-some x e)
  above-of (suc n) key x e = by_node (λ above h. above-of n above x h) (nodes key) refl e where
    by_parent : ((above : ℕ) → node_above nodes a n above ≡ Some x → IsNodeOf nodes a x) → (o : Option ℕ) → option_map_or (node_above nodes a n) o None ≡ Some x → IsNodeOf nodes a x
    by_parent rest None h = absurd (none-some x h)
    by_parent rest (Some above) h = rest above h

    by_test : ((above : ℕ) → node_above nodes a n above ≡ Some x → IsNodeOf nodes a x) → (y : FrameNode) → nodes key ≡ Some y → (b : Bool) → nat_eq y.activation a ≡ b
        → (if b then Some y else option_map_or (node_above nodes a n) y.parent None) ≡ Some x → IsNodeOf nodes a x
    by_test rest y there true t h = (key, there ∙ h, ap (λ (z : FrameNode). z.activation) (sym (same_Some y x h)) ∙ eqb-true y.activation a t)
    by_test rest y there false t h = by_parent rest y.parent h

    by_node : ((above : ℕ) → node_above nodes a n above ≡ Some x → IsNodeOf nodes a x) → (o : Option FrameNode) → nodes key ≡ o
        → (if is_of a o then o else option_map_or (node_above nodes a n) (parent_in o) None) ≡ Some x → IsNodeOf nodes a x
    by_node rest None there h = absurd (none-some x h)
    by_node rest (Some y) there h = by_test rest y there (nat_eq y.activation a) refl h

  pub among-of : (n : ℕ) (keys : List ℕ) (x : FrameNode) → node_among nodes a n keys ≡ Some x → IsNodeOf nodes a x
  among-of n [] x e = absurd (none-some x e)
  among-of n (key ∷ keys) x e = by_first (among-of n keys x) (node_above nodes a n key) refl e where
    by_first : (node_among nodes a n keys ≡ Some x → IsNodeOf nodes a x) → (o : Option FrameNode) → node_above nodes a n key ≡ o → option_or o (node_among nodes a n keys) ≡ Some x → IsNodeOf nodes a x
    by_first rest None f h = rest h
    by_first rest (Some y) f h = above-of n key x (f ∙ h)

-- ---- where something is found

abbrev pub IsFound : Nodes → ℕ → ℕ → List ℕ → Type 0
IsFound nodes a n keys = is_some (node_among nodes a n keys) ≡ true

or-first : (o p : Option FrameNode) → is_some o ≡ true → is_some (option_or o p) ≡ true
or-first None p h = absurd (true≢false (sym h))
or-first (Some x) p h = refl

or-second : (o p : Option FrameNode) → is_some p ≡ true → is_some (option_or o p) ≡ true
or-second None p h = h
or-second (Some x) p h = refl

-- the node under a key is found at once
above-here : (nodes : Nodes) (a n key : ℕ) (x : FrameNode) → nodes key ≡ Some x → x.activation ≡ a → node_above nodes a (suc n) key ≡ Some x
above-here nodes a n key x there is =
    ap (λ o. if is_of a o then o else option_map_or (node_above nodes a n) (parent_in o) None) there
    ∙ ap (λ b. if b then Some x else option_map_or (node_above nodes a n) x.parent None) (eq-eqb x.activation a is)

module _ (nodes : Nodes) (a n : ℕ) where
  found-first : (key : ℕ) (keys : List ℕ) (x : FrameNode) → nodes key ≡ Some x → x.activation ≡ a → IsFound nodes a (suc n) (key ∷ keys)
  found-first key keys x there is = or-first (node_above nodes a (suc n) key) (node_among nodes a (suc n) keys) (ap is_some (above-here nodes a n key x there is))

  pub found-in-front : (keys more : List ℕ) → IsFound nodes a n keys → IsFound nodes a n (keys ++ more)
  found-in-front [] more h = absurd (true≢false (sym h))
  found-in-front (key ∷ keys) more h = by_first (found-in-front keys more) (node_above nodes a n key) h where
    by_first : (IsFound nodes a n keys → IsFound nodes a n (keys ++ more)) → (o : Option FrameNode) → is_some (option_or o (node_among nodes a n keys)) ≡ true → is_some (option_or o (node_among nodes a n (keys ++ more))) ≡ true
    by_first rest None e = rest e
    by_first rest (Some x) e = refl

  found-behind : (keys more : List ℕ) → IsFound nodes a n more → IsFound nodes a n (keys ++ more)
  found-behind [] more h = h
  found-behind (key ∷ keys) more h = or-second (node_above nodes a n key) (node_among nodes a n (keys ++ more)) (found-behind keys more h)

  pub found-in-stack : (ks : List Stack) (i : ℕ) (k : Stack) → slice_get ks i ≡ Some k → IsFound nodes a n (keys_of k.levels) → IsFound nodes a n (flat_map (λ (k : Stack). keys_of k.levels) ks)
  found-in-stack [] i k e h = absurd (none-some k e)
  found-in-stack (j ∷ ks) zero k e h = found-in-front (keys_of j.levels) (flat_map (λ (k : Stack). keys_of k.levels) ks) (ap (λ (z : Stack). is_some (node_among nodes a n (keys_of z.levels))) (same_Some j k e) ∙ h)
  found-in-stack (j ∷ ks) (suc i) k e h = found-behind (keys_of j.levels) (flat_map (λ (k : Stack). keys_of k.levels) ks) (found-in-stack ks i k e h)

-- ---- an activation of a level

module _ (program : Units) (s : State) (nodes : Nodes) (a n : ℕ) where
  found-here : (l : Local) (keys : List ℕ) (b : ℕ) → IsHere program s nodes l b → nat_eq a b ≡ true → IsFound nodes a (suc n) (l.key ∷ keys)
  found-here l keys b h same = found-first nodes a n l.key keys h.node h.there (sym h.activation ∙ sym (eqb-true a b same))

  found-below : (above : ℕ) (pending : List Value) (ls : List Local) (q : Process) → AreStandingBelow program s nodes above pending ls q → is_number_among a (activations_on q) ≡ true → IsFound nodes a (suc n) (keys_of ls)
  found-below above pending [] [] h among = absurd (true≢false (sym among))
  found-below above pending (l ∷ ls) (level ∷ levels) h among =
      elim (or_cases (nat_eq a level.activation) (is_number_among a (activations_on levels)) among) [
        | inl here ↦ found-here l (keys_of ls) level.activation h.0.here here
        | inr rest ↦ found-behind nodes a (suc n) (l.key ∷ []) (keys_of ls) (found-below l.unit (take (length pending - l.kept) pending) ls levels h.1 rest)
      ]
  found-below above pending [] (level ∷ levels) h among = absurd h
  found-below above pending (l ∷ ls) [] h among = absurd h

  pub found-on : (vs pending : List Value) (ls : List Local) (q : Process) → AreStanding program s nodes vs pending ls q → is_number_among a (activations_on q) ≡ true → IsFound nodes a (suc n) (keys_of ls)
  found-on vs pending [] [] h among = absurd (true≢false (sym among))
  found-on vs pending (l ∷ ls) (level ∷ levels) h among =
      elim (or_cases (nat_eq a level.activation) (is_number_among a (activations_on levels)) among) [
        | inl here ↦ found-here l (keys_of ls) level.activation h.0.here here
        | inr rest ↦ found-behind nodes a (suc n) (l.key ∷ []) (keys_of ls) (found-below l.unit pending ls levels h.1 rest)
      ]
  found-on vs pending [] (level ∷ levels) h among = absurd h
  found-on vs pending (l ∷ ls) [] h among = absurd h

-- ---- the parent of one that is found

module _ (s : State) (on out : ℕ → Bool) (nodes : Nodes) (tree : IsFrameTree s on out nodes) (c a : ℕ) (parent : parent_of s c ≡ Some a) where
  -- above the child's node, one step further
  above-parent : (n key : ℕ) → is_some (node_above nodes c n key) ≡ true → is_some (node_above nodes a (suc n) key) ≡ true
  above-parent zero key h = absurd (true≢false (sym h))
  above-parent (suc n) key h = by_node (above-parent n) (nodes key) refl h where
    further : (o : Option ℕ) → ((above : ℕ) → is_some (node_above nodes c n above) ≡ true → is_some (node_above nodes a (suc n) above) ≡ true)
        → is_some (option_map_or (node_above nodes c n) o None) ≡ true → is_some (option_map_or (node_above nodes a (suc n)) o None) ≡ true
    further None rest h = h
    further (Some above) rest h = rest above h

    here : (y : FrameNode) → nodes key ≡ Some y → y.activation ≡ c → is_some (option_map_or (node_above nodes a (suc n)) y.parent None) ≡ true
    here y there is =
        let under = under-parts nodes y.parent a ((tree.shown key y there).parent_is ∙ ap (λ b. Some (parent_of s b)) is ∙ ap (λ p. Some p) parent) in
        ap (λ o. is_some (option_map_or (node_above nodes a (suc n)) o None)) under.2 ∙ ap is_some (above-here nodes a n under.0 under.1 under.3 under.4)

    by_child : ((above : ℕ) → is_some (node_above nodes c n above) ≡ true → is_some (node_above nodes a (suc n) above) ≡ true) → (y : FrameNode) → nodes key ≡ Some y → (b : Bool) → nat_eq y.activation c ≡ b
        → is_some (if b then Some y else option_map_or (node_above nodes c n) y.parent None) ≡ true → is_some (option_map_or (node_above nodes a (suc n)) y.parent None) ≡ true
    by_child rest y there true t h = here y there (eqb-true y.activation c t)
    by_child rest y there false t h = further y.parent rest h

    by_own : (y : FrameNode) (b : Bool) → is_some (option_map_or (node_above nodes a (suc n)) y.parent None) ≡ true → is_some (if b then Some y else option_map_or (node_above nodes a (suc n)) y.parent None) ≡ true
    by_own y true h = refl
    by_own y false h = h

    by_node : ((above : ℕ) → is_some (node_above nodes c n above) ≡ true → is_some (node_above nodes a (suc n) above) ≡ true) → (o : Option FrameNode) → nodes key ≡ o
        → is_some (if is_of c o then o else option_map_or (node_above nodes c n) (parent_in o) None) ≡ true
        → is_some (if is_of a o then o else option_map_or (node_above nodes a (suc n)) (parent_in o) None) ≡ true
    by_node rest None there h = absurd (true≢false (sym h))
    by_node rest (Some y) there h = by_own y (nat_eq y.activation a) (by_child rest y there (nat_eq y.activation c) refl h)

  found-parent : (n : ℕ) (keys : List ℕ) → IsFound nodes c n keys → IsFound nodes a (suc n) keys
  found-parent n [] h = absurd (true≢false (sym h))
  found-parent n (key ∷ keys) h = by_first (found-parent n keys) (node_above nodes c n key) refl h where
    by_first : (IsFound nodes c n keys → IsFound nodes a (suc n) keys) → (o : Option FrameNode) → node_above nodes c n key ≡ o → is_some (option_or o (node_among nodes c n keys)) ≡ true → IsFound nodes a (suc n) (key ∷ keys)
    by_first rest None f e = or-second (node_above nodes a (suc n) key) (node_among nodes a (suc n) keys) (rest e)
    by_first rest (Some y) f e = or-first (node_above nodes a (suc n) key) (node_among nodes a (suc n) keys) (above-parent n key (ap is_some f))

-- ---- held activations: each parent is older, so there are no more steps upwards than activations

module _ (program : Units) (choices : List ℕ) (on : ℕ → Bool) (nodes : Nodes) (tree : IsFrameTree (run program choices) on (is_held (run program choices)) nodes) (keys : List ℕ)
    (stacked : (a n : ℕ) → IsOnStack (run program choices) a → IsFound nodes a (suc n) keys) where
  pub held-found : (n a : ℕ) → is_held (run program choices) a ≡ true → length (run program choices).activations ≤ a + n → IsFound nodes a (suc n) keys
  held-found zero a held few =
      elim ((held_is program choices a).0 held) [
        | inl here ↦ stacked a zero here
        | inr child ↦
            let older = run_older program choices child.0 a child.2 in
            let made = tree.made child.0 child.1 in
            absurd (omega (arith, older.1, made.1, few))
      ]
  held-found (suc n) a held few =
      elim ((held_is program choices a).0 held) [
        | inl here ↦ stacked a (suc n) here
        | inr child ↦
            let older = run_older program choices child.0 a child.2 in
            found-parent (run program choices) on (is_held (run program choices)) nodes tree child.0 a child.2 (suc n) keys (held-found n child.0 child.1 (omega (arith, older.1, few)))
      ]

-- the process and the stack of one number are there together
other-there : {A B : Type 0} (xs : List A) (ys : List B) (i : ℕ) (y : B) → length xs ≡ length ys → slice_get ys i ≡ Some y
    → (x : A) × (slice_get xs i ≡ Some x)
other-there xs [] i y long e = absurd (none-some y e)
other-there [] (z ∷ ys) i y long e = absurd (omega (arith, long))
other-there (x ∷ xs) (z ∷ ys) zero y long e = (x, refl)
other-there (x ∷ xs) (z ∷ ys) (suc i) y long e = other-there xs ys i y (omega (arith, long)) e

module _ (program : Units) (cells : ℕ) (choices : List ℕ) (m : Snapshot) (after : IsAfter program cells choices m) where
  abbrev s : State
  s = run program choices

  abbrev keys : List ℕ
  keys = flat_map (λ (k : Stack). keys_of k.levels) m.processes

  stacked-found : (a n : ℕ) → IsOnStack s a → IsFound m.nodes a (suc n) keys
  stacked-found a n on = by_number on.0 on.1 on.2 on.3 where
    by_number : (p : ℕ) (q : Process) → numbered s.processes p ≡ Some q → is_number_among a (activations_on q) ≡ true
        → IsFound m.nodes a (suc n) keys
    by_number zero q e among = absurd (none-some q e)
    by_number (suc i) q e among =
        let stack = other-there m.processes s.processes i q after.shows.processes e in
        let stands = stack-standing program s m.nodes m.arena.contents stack.0 q (after.shows.stacks (suc i) stack.0 q stack.1 e) in
        found-in-stack m.nodes a (suc n) m.processes i stack.0 stack.1 (found-on program s m.nodes a n stack.0.operands stack.0.pending stack.0.levels q stands among)

  -- just the held activations have nodes
  pub unheld : (a : ℕ) → node_of m a ≡ None → is_held s a ≡ false
  unheld a none = elim (cases_Bool (is_held s a)) [
    | inl e ↦
        let found = held-found program choices (is_stacked s) m.nodes after.shows.keeps.tree keys stacked-found (length s.activations) a e (omega arith) in
        absurd (true≢false (sym found ∙ ap (λ n. is_some (node_among m.nodes a (suc n) keys)) (sym after.shows.activations) ∙ ap is_some none))
    | inr e ↦ e
  ]

  -- each has its activation's frame and unit
  pub framed-at : (a : ℕ) (n : FrameNode) → node_of m a ≡ Some n
      → frame_among a after.layout ≡ Some (record { activation = a; first = n.first; cells = n.cells })
  framed-at a n e =
      let node = among-of m.nodes a (suc m.activations) keys n e in
      ap (λ b. frame_among b after.layout) (sym node.2) ∙ after.shows.keeps.framed node.0 n node.1 ∙ ap (λ b. Some (record { activation = b; first = n.first; cells = n.cells })) node.2

  pub unit-at : (a : ℕ) (n : FrameNode) → node_of m a ≡ Some n → n.unit ≡ (activation_of s a).unit
  unit-at a n e =
      let node = among-of m.nodes a (suc m.activations) keys n e in
      (after.shows.keeps.tree.shown node.0 n node.1).unit_is ∙ ap (λ b. (activation_of s b).unit) node.2
