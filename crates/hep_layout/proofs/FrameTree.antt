-- The tree of frames: what is out is held, and what giving a frame back, an end and a new activation make of the tree.
use Rattle.std.proofs.lemmas.Bool.Decides.{nat_tests}
use Rattle.std.proofs.Common.{◌≡◌, ◌⊎◌, inl, inr, ℕ, zero, suc, ◌+◌, ◌<◌, ◌≤◌, Bool, true, false, List, ◌∷◌, length, Option, Some, None, refl, sym, ap, ◌∙◌, subst, arith, ◌↔◌, ◌&&◌, ◌||◌, if◌then◌else◌, nat_eq, ◌-◌}
use Rattle.std.specs.Option.{option_map}
use Rattle.std.proofs.lemmas.Bool.{and_parts, eqb-true, eq-eqb, ne_eqb, cases_Bool, cond_both, not-false, both_ways, false_from_ne_true}
use Rattle.std.proofs.lemmas.Option.{same_Some, none-some}
use Rattle.hep_machine.specs.Words.{Units, IsOnStack, HasHeldChild, activations_on, is_held, is_number_among, numbered, parent_of, run, Level, Process, State}
use Rattle.hep_machine.proofs.Ages.{IsAged, aged, older_parent}
use Rattle.hep_machine.proofs.Held.{held_is, on_some, some_on}
use Rattle.hep_layout.specs.Words.{activation_under, AreNeededBut, but, children_out, is_just, is_stacked, IsAtRest, IsFrameNode, IsFrameTree, IsNeeded, FrameNode, Nodes, with_one_less, without_node}
use Rattle.hep_layout.proofs.Counts.{count-one_less, count-same, count-some, counted}
use Rattle.hep_machine.proofs.Frames.{mapped_from}

-- ---- numbers

pub just-is : (a : ℕ) (o : Option ℕ) → is_just a o ≡ true → o ≡ Some a
just-is a None e = absurd cc
just-is a (Some b) e = grind (arith, nat_tests)

pub is-just : (a : ℕ) (o : Option ℕ) → o ≡ Some a → is_just a o ≡ true
is-just a o e = grind (arith, nat_tests)

pub but-parts : (x a : ℕ) (test : ℕ → Bool) → but x test a ≡ true → (nat_eq a x ≡ false) × (test a ≡ true)
but-parts x a test e = (grind (arith, nat_tests), grind (arith, nat_tests))

-- ---- children

pub child-counts : (s : State) (out : ℕ → Bool) (c b : ℕ) → 1 ≤ c → c ≤ length s.activations → out c ≡ true → parent_of s c ≡ Some b → 1 ≤ children_out s out b
child-counts s out c b one le e f = counted (λ d. out d && is_just b (parent_of s d)) (length s.activations) c one le (rw (e, is-just b (parent_of s c) f) refl)

pub a-child : (s : State) (out : ℕ → Bool) (a : ℕ) → 1 ≤ children_out s out a → (c : ℕ) × (c ≤ length s.activations) × (out c ≡ true) × (parent_of s c ≡ Some a)
a-child s out a h =
    let found = count-some (λ d. out d && is_just a (parent_of s d)) (length s.activations) h in
    let parts = and_parts (out found.0) (is_just a (parent_of s found.0)) found.3 in
    (found.0, found.2, parts.0, just-is a (parent_of s found.0) parts.1)

-- an activation that isn't the parent of the one that leaves has as many children out as before, and the parent one less
children-stay : (s : State) (out : ℕ → Bool) (x b : ℕ) → is_just b (parent_of s x) ≡ false → children_out s (but x out) b ≡ children_out s out b
children-stay s out x b other =
    count-same (λ c. but x out c && is_just b (parent_of s c)) (λ c. out c && is_just b (parent_of s c)) (length s.activations) (λ c one le. grind (arith, nat_tests))

children-fall : (s : State) (out : ℕ → Bool) (x b : ℕ) → 1 ≤ x → x ≤ length s.activations → out x ≡ true → parent_of s x ≡ Some b → children_out s out b ≡ suc (children_out s (but x out) b)
children-fall s out x b one le e f =
    count-one_less (λ c. out c && is_just b (parent_of s c)) (λ c. but x out c && is_just b (parent_of s c)) x (length s.activations) one le (rw (e, is-just b (parent_of s x) f) refl) (grind (arith, nat_tests)) (λ c other. rw other refl)

-- ---- what is under a key

pub under-parts : (nodes : Nodes) (o : Option ℕ) (b : ℕ) → activation_under nodes o ≡ Some (Some b) → (k : ℕ) × (n : FrameNode) × (o ≡ Some k) × (nodes k ≡ Some n) × (n.activation ≡ b)
under-parts nodes None b e = absurd (none-some b (same_Some None (Some b) e))
under-parts nodes (Some k) b e =
    let found = mapped_from (λ (n : FrameNode). Some n.activation) (nodes k) (Some b) e in
    (k, found.0, refl, found.1, same_Some found.0.activation b found.2)

-- with an activation its parent is out
pub parent-out : (s : State) (on out : ℕ → Bool) (nodes : Nodes) (c b : ℕ) → IsFrameTree s on out nodes → out c ≡ true → parent_of s c ≡ Some b → out b ≡ true
parent-out s on out nodes c b tree e f =
    let found = tree.found c e in
    let node = tree.shown found.0 found.1 found.2 in
    let above = under-parts nodes found.1.parent b (node.parent_is ∙ ap (λ o. Some o) (ap (parent_of s) found.3 ∙ f)) in
    subst (λ d. out d ≡ true) above.4 (tree.shown above.0 above.1 above.3).out_is

-- ---- stacks

pub stacked-on : (s : State) (a : ℕ) → is_stacked s a ≡ true → IsOnStack s a
stacked-on s a h = let found = on_some a s.processes h in (suc found.0, found.1, found.2, found.3)

pub on-stacked : (s : State) (a : ℕ) → IsOnStack s a → is_stacked s a ≡ true
on-stacked s a (zero, q, e, h) = absurd (none-some q e)
on-stacked s a (suc i, q, e, h) = some_on a s.processes i q e h

-- the activation on top of a process is on a stack
pub stacked-top : (s : State) (p : ℕ) (top : Level × Process) → numbered s.processes p ≡ Some (top.0 ∷ top.1) → IsOnStack s top.0.activation
stacked-top s p top e = (p, top.0 ∷ top.1, e, ap (λ b. b || is_number_among top.0.activation (activations_on top.1)) (eq-eqb top.0.activation top.0.activation refl))

-- ---- at rest

-- just what is on a stack or has a held child is held
abbrev pub IsHeldSo : State → Type 0
IsHeldSo s = (a : ℕ) → (is_held s a ≡ true) ↔ (IsOnStack s a ⊎ HasHeldChild s a)

-- both by how many activations were made after this one
out-held : (s : State) (out : ℕ → Bool) (nodes : Nodes) (m a : ℕ) → IsHeldSo s → IsAged s → IsAtRest s out nodes → length s.activations < m + a → out a ≡ true → is_held s a ≡ true
out-held s out nodes zero a held old rest few e = absurd (omega (arith, (rest.tree.made a e).1))
out-held s out nodes (suc m) a held old rest few e = elim (rest.needed a e refl) [
  | inl on ↦ (held a).1 (inl (stacked-on s a on))
  | inr some ↦
      let child = a-child s out a some in
      let later = older_parent s child.0 a old child.3 in
      (held a).1 (inr (child.0, out-held s out nodes m child.0 held old rest (omega (arith, later.1)) child.2, child.3))
]

held-out : (s : State) (out : ℕ → Bool) (nodes : Nodes) (m a : ℕ) → IsHeldSo s → IsAged s → IsAtRest s out nodes → length s.activations < m + a → is_held s a ≡ true → out a ≡ true
held-out s out nodes zero a held old rest few h = elim ((held a).0 h) [
  | inl on ↦ rest.tree.stacked a (on-stacked s a on)
  | inr child ↦ let later = older_parent s child.0 a old child.2 in absurd (omega (arith, later.1, later.2))
]
held-out s out nodes (suc m) a held old rest few h = elim ((held a).0 h) [
  | inl on ↦ rest.tree.stacked a (on-stacked s a on)
  | inr child ↦
      let later = older_parent s child.0 a old child.2 in
      parent-out s (is_stacked s) out nodes child.0 a rest.tree (held-out s out nodes m child.0 held old rest (omega (arith, later.1)) child.1) child.2
]

-- just what is held is out
pub rest-held : (program : Units) (processes : List ℕ) (out : ℕ → Bool) (nodes : Nodes) (a : ℕ) → IsAtRest (run program processes) out nodes → out a ≡ is_held (run program processes) a
rest-held program processes out nodes a rest =
    let so : IsHeldSo (run program processes) = held_is program processes in
    let old = aged program processes in
    let above : length (run program processes).activations < suc (length (run program processes).activations) + a = omega arith in
    grind (
      arith,
      out-held (run program processes) out nodes (suc (length (run program processes).activations)) a so old rest above,
      held-out (run program processes) out nodes (suc (length (run program processes).activations)) a so old rest above,
    )

-- ---- nodes that change where a test holds, but keep their activations

-- what is under a key was there before
pub record IsFrom (o : Option FrameNode) (b : Bool) (f : FrameNode → FrameNode) (m : FrameNode) : Type 0 where
  pub was : FrameNode
  pub there : o ≡ Some was
  pub now : (if b then f was else was) ≡ m
  pub owner : was.activation ≡ m.activation

module _ (f : FrameNode → FrameNode) (keeps : (r : FrameNode) → (f r).activation ≡ r.activation) where
  pub node-before : (b : Bool) (o : Option FrameNode) (m : FrameNode) → (if b then option_map f o else o) ≡ Some m → IsFrom o b f m
  node-before true o m e = let found = mapped_from f o m e in record { was = found.0; there = found.1; now = found.2; owner = sym (keeps found.0) ∙ ap (λ (z : FrameNode). z.activation) found.2 }
  node-before false o m e = record { was = m; there = e; now = refl; owner = refl }

  pub node-after : (b : Bool) (o : Option FrameNode) (r : FrameNode) → o ≡ Some r → (m : FrameNode) × ((if b then option_map f o else o) ≡ Some m) × (m.activation ≡ r.activation)
  node-after true o r e = (f r, ap (option_map f) e, keeps r)
  node-after false o r e = (r, e, refl)

  pub same-under : (b : Bool) (o : Option FrameNode) → option_map (λ (m : FrameNode). Some m.activation) (if b then option_map f o else o) ≡ option_map (λ (m : FrameNode). Some m.activation) o
  same-under true None = refl
  same-under true (Some r) = ap (λ a. Some (Some a)) (keeps r)
  same-under false o = refl

-- ---- a frame is given back

pub kept-node : (nodes : Nodes) (k : ℕ) (n : FrameNode) (l : ℕ) (m : FrameNode) → without_node nodes k n l ≡ Some m → (nat_eq l k ≡ false) × IsFrom (nodes l) (is_just l n.parent) with_one_less m
kept-node nodes k n l m e = elim (cases_Bool (nat_eq l k)) [
  | inl same ↦ absurd (none-some m (rw same at e))
  | inr apart ↦ (apart, node-before with_one_less (λ r. refl) (is_just l n.parent) (nodes l) m (rw apart at e))
]

module _ (s : State) (on out : ℕ → Bool) (nodes : Nodes) (k : ℕ) (n : FrameNode) (tree : IsFrameTree s on out nodes) (at : nodes k ≡ Some n) where
  -- what has no children out is nobody's parent
  childless : n.children ≡ 0 → (c : ℕ) → out c ≡ true → parent_of s c ≡ Some n.activation → ⊥
  childless alone c e f =
      let made = tree.made c e in
      omega (arith, alone, (tree.shown k n at).children_are, child-counts s out c n.activation made.0 made.1 e f)

  -- so the keys of parents stay
  pub parent-kept : n.children ≡ 0 → (c : ℕ) (o : Option ℕ) → out c ≡ true → activation_under nodes o ≡ Some (parent_of s c) → activation_under (without_node nodes k n) o ≡ Some (parent_of s c)
  parent-kept alone c None e f = f
  parent-kept alone c (Some l) e f = rw (ne_eqb l k (λ same. childless alone c e (its same))) (same-under with_one_less (λ r. refl) (is_just l n.parent) (nodes l) ∙ f) where
    its : l ≡ k → parent_of s c ≡ Some n.activation
    its same = sym (same_Some (Some n.activation) (parent_of s c) (rw (same, at) at f))

  -- the parent of its activation is that of the node under its parent's key
  its-parent : (l : ℕ) (m : FrameNode) → n.parent ≡ Some l → nodes l ≡ Some m → parent_of s n.activation ≡ Some m.activation
  its-parent l m j e = sym (same_Some (Some m.activation) (parent_of s n.activation) (rw (j, e) at (tree.shown k n at).parent_is))

  -- its parent's node is another one, which counts it
  pub parent-counts : (l : ℕ) (m : FrameNode) → n.parent ≡ Some l → nodes l ≡ Some m → 1 ≤ m.children
  parent-counts l m j e =
      let node = tree.shown k n at in
      let made = tree.made n.activation node.out_is in
      omega (arith, (tree.shown l m e).children_are, child-counts s out n.activation m.activation made.0 made.1 node.out_is (its-parent l m j e))

  pub parent-apart : (l : ℕ) → n.children ≡ 0 → n.parent ≡ Some l → nat_eq l k ≡ false
  parent-apart l alone j = ne_eqb l k (λ same. omega (arith, parent-counts l n j (ap nodes same ∙ at)))

  -- the parent's node has one child less, and the others have as many as before
  one-less : (l : ℕ) (r : FrameNode) → nodes l ≡ Some r → is_just l n.parent ≡ true → r.children - 1 ≡ children_out s (but n.activation out) r.activation
  one-less l r e j =
      let node = tree.shown k n at in
      let made = tree.made n.activation node.out_is in
      omega (arith, children-fall s out n.activation r.activation made.0 made.1 node.out_is (its-parent l r (just-is l n.parent j) e), (tree.shown l r e).children_are)

  as-many : (l : ℕ) (r : FrameNode) → nodes l ≡ Some r → is_just l n.parent ≡ false → r.children ≡ children_out s (but n.activation out) r.activation
  as-many l r e j = (tree.shown l r e).children_are ∙ sym (children-stay s out n.activation r.activation (false_from_ne_true (is_just r.activation (parent_of s n.activation)) (λ f.
      let above = under-parts nodes n.parent r.activation ((tree.shown k n at).parent_is ∙ ap (λ o. Some o) (just-is r.activation (parent_of s n.activation) f)) in
      let same : above.0 ≡ l = tree.single above.0 l above.1 r above.3 e above.4 in
      both_ways (is_just l n.parent) j (is-just l n.parent (above.2 ∙ ap (λ q. Some q) same)))))

  pub tree-left : n.finished ≡ true → n.children ≡ 0 → IsFrameTree s on (but n.activation out) (without_node nodes k n)
  tree-left ended alone =
      record {
        shown = λ l m e. let kept = kept-node nodes k n l m e in subst (IsFrameNode s on (but n.activation out) (without_node nodes k n)) kept.1.now (known l kept.1.was kept.0 kept.1.there);
        found = λ a e.
            let old = tree.found a (but-parts n.activation a out e).1 in
            let apart : nat_eq old.0 k ≡ false = grind (arith, nat_tests, old.2, old.3) in
            let now = node-after with_one_less (λ r. refl) (is_just old.0 n.parent) (nodes old.0) old.1 old.2 in
            (old.0, now.0, rw apart now.1, now.2 ∙ old.3);
        single = λ l q m r e f same.
            let one = (kept-node nodes k n l m e).1 in
            let two = (kept-node nodes k n q r f).1 in
            tree.single l q one.was two.was one.there two.there (one.owner ∙ (same ∙ sym two.owner));
        stacked = λ a e. grind (arith, nat_tests, tree.stacked a e, (tree.shown k n at).finished_is);
        made = λ a e. tree.made a (but-parts n.activation a out e).1;
      }
    where
      known : (l : ℕ) (r : FrameNode) → nat_eq l k ≡ false → nodes l ≡ Some r → IsFrameNode s on (but n.activation out) (without_node nodes k n) (if is_just l n.parent then with_one_less r else r)
      known l r apart e = cond_both (is_just l n.parent) (with_one_less r) r (IsFrameNode s on (but n.activation out) (without_node nodes k n)) (λ j. with_children (r.children - 1) (one-less l r e j)) (λ j. with_children r.children (as-many l r e j)) where
        with_children : (m : ℕ) → m ≡ children_out s (but n.activation out) r.activation → IsFrameNode s on (but n.activation out) (without_node nodes k n) (record r { children = m })
        with_children m counted =
            let old = tree.shown l r e in
            record {
              out_is = grind (arith, nat_tests, old.out_is, tree.single l k r n e at);
              unit_is = old.unit_is;
              parent_is = parent-kept alone r.activation r.parent old.out_is old.parent_is;
              children_are = counted;
              finished_is = old.finished_is;
            }

  -- the parent is the next to look at
  pub needed-left : AreNeededBut (Some n.activation) s on out → AreNeededBut (parent_of s n.activation) s on (but n.activation out)
  needed-left wanted a e other =
      let parts = but-parts n.activation a out e in
      elim (wanted a parts.1 (grind (arith, nat_tests, parts.0))) [
        | inl there ↦ inl there
        | inr some ↦ inr (rw (children-stay s out n.activation a other) some)
      ]

  pub node-needed : (n.finished ≡ false) ⊎ (1 ≤ n.children) → IsNeeded s on out n.activation
  node-needed (inl going) = inl (not-false (on n.activation) (sym (tree.shown k n at).finished_is ∙ going))
  node-needed (inr some) = inr (omega (arith, (tree.shown k n at).children_are))

-- where the exception is needed, all are
pub needed-all : (s : State) (on out : ℕ → Bool) (x : ℕ) → AreNeededBut (Some x) s on out → IsNeeded s on out x → AreNeededBut None s on out
needed-all s on out x wanted it a e none = elim (cases_Bool (nat_eq x a)) [
  | inl k ↦ subst (IsNeeded s on out) (eqb-true x a k) it
  | inr k ↦ wanted a e k
]

-- what is held has a node, and what has a node is held
pub held-node : (program : Units) (processes : List ℕ) (out : ℕ → Bool) (nodes : Nodes) (a : ℕ) → IsAtRest (run program processes) out nodes → (is_held (run program processes) a ≡ true) ↔ ((k : ℕ) × (n : FrameNode) × (nodes k ≡ Some n) × (n.activation ≡ a))
held-node program processes out nodes a rest =
    let same = λ (b : ℕ). rest-held program processes out nodes b rest in
    (λ h. rest.tree.found a (same a ∙ h), λ node. rw (sym node.3) (sym (same node.1.activation) ∙ (rest.tree.shown node.0 node.1 node.2).out_is))
