-- The tree of frames where an activation ends or begins, and the frames that its nodes have.
use Rattle.std.proofs.lemmas.Bool.Decides.{nat_tests}
use Rattle.std.proofs.Common.{◌≡◌, ◌⊎◌, inl, inr, ℕ, suc, ◌+◌, ◌≤◌, Bool, true, false, List, [], ◌∷◌, ◌++◌, length, Option, Some, None, refl, sym, ap, ◌∙◌, subst, arith, ◌&&◌, if◌then◌else◌, not, nat_eq, length-append}
use Rattle.std.specs.List.{filter}
use Rattle.std.specs.Option.{option_map}
use Rattle.std.proofs.lemmas.Bool.{eqb-true, eqb-false, eq-eqb, ne_eqb, cases_Bool, cond_both, cases_lt}
use Rattle.std.proofs.lemmas.Option.{same_Some}
use Rattle.hep_machine.specs.Words.{Frame, Layout, with_frame, activation_of, parent_of, Activation, State}
use Rattle.hep_arena.specs.Gaps.{frame_among, without}
use Rattle.hep_layout.specs.Words.{AreSingle, activation_under, also, AreFramed, AreNeededBut, but, children_out, count_up_to, is_just, IsFrameNode, IsFrameTree, new_node, FrameNode, Nodes, with_end, with_ended, with_node, with_one_less, with_one_more, without_node}
use Rattle.hep_layout.proofs.Counts.{count-same}
use Rattle.hep_layout.proofs.Frames.{among-with_frame, among-without}
use Rattle.hep_layout.proofs.Memory.{activation-kept, activation-last}
use Rattle.hep_layout.proofs.FrameTree.{a-child, but-parts, kept-node, parent-out, IsFrom, node-before, node-after, same-under}
use Rattle.hep_machine.proofs.Frames.{mapped_from}

-- the frame of a node's activation in a layout is that of the node
abbrev HasFrame : Layout → FrameNode → Type 0
HasFrame layout n = frame_among n.activation layout ≡ Some (record { activation = n.activation; first = n.first; cells = n.cells })

framed-node : (layout : Layout) (b : Bool) (f : FrameNode → FrameNode) (n : FrameNode) → (HasFrame layout n → HasFrame layout (f n)) → HasFrame layout n → HasFrame layout (if b then f n else n)
framed-node layout b f n keeps h = cond_both b (f n) n (HasFrame layout) (λ e. keeps h) (λ e. h)

-- ---- an activation ends

-- the keys lead to the same activations
under-ended : (nodes : Nodes) (k : ℕ) (o : Option ℕ) → activation_under (with_ended nodes k) o ≡ activation_under nodes o
under-ended nodes k None = refl
under-ended nodes k (Some l) = same-under with_end (λ r. refl) (nat_eq l k) (nodes l)

module _ (s : State) (on out : ℕ → Bool) (nodes : Nodes) (k : ℕ) (n : FrameNode) (tree : IsFrameTree s on out nodes) (at : nodes k ≡ Some n) where
  ended-known : (l : ℕ) (r : FrameNode) → nodes l ≡ Some r → IsFrameNode s (but n.activation on) out (with_ended nodes k) (if nat_eq l k then with_end r else r)
  ended-known l r e =
      cond_both (nat_eq l k) (with_end r) r (IsFrameNode s (but n.activation on) out (with_ended nodes k)) (λ j. with_finished true (grind (arith, nat_tests, e, at, j))) (λ j. with_finished r.finished (grind (arith, nat_tests, old.finished_is, tree.single l k r n e at)))
    where
      old : IsFrameNode s on out nodes r
      old = tree.shown l r e

      with_finished : (finished : Bool) → finished ≡ not (but n.activation on r.activation) → IsFrameNode s (but n.activation on) out (with_ended nodes k) (record r { finished = finished })
      with_finished finished is = record { out_is = old.out_is; unit_is = old.unit_is; parent_is = under-ended nodes k r.parent ∙ old.parent_is; children_are = old.children_are; finished_is = is }

  pub tree-ended : IsFrameTree s (but n.activation on) out (with_ended nodes k)
  tree-ended =
      record {
        shown = λ l m e. let old = node-before with_end (λ r. refl) (nat_eq l k) (nodes l) m e in subst (IsFrameNode s (but n.activation on) out (with_ended nodes k)) old.now (ended-known l old.was old.there);
        found = λ a e.
            let old = tree.found a e in
            let now = node-after with_end (λ r. refl) (nat_eq old.0 k) (nodes old.0) old.1 old.2 in
            (old.0, now.0, now.1, now.2 ∙ old.3);
        single = λ l q m r e f same.
            let one = node-before with_end (λ z. refl) (nat_eq l k) (nodes l) m e in
            let two = node-before with_end (λ z. refl) (nat_eq q k) (nodes q) r f in
            tree.single l q one.was two.was one.there two.there (one.owner ∙ (same ∙ sym two.owner));
        stacked = λ a e. tree.stacked a (but-parts n.activation a on e).1;
        made = tree.made;
      }

-- it alone may not be needed any more
pub needed-ended : (s : State) (on out : ℕ → Bool) (x : ℕ) → AreNeededBut None s on out → AreNeededBut (Some x) s (but x on) out
needed-ended s on out x wanted a e other = elim (wanted a e refl) [
  | inl there ↦ inl (grind (arith, nat_tests, there, other))
  | inr some ↦ inr some
]

-- ---- a new activation

also-itself : (c : ℕ) (test : ℕ → Bool) → also c test c ≡ true
also-itself c test = grind (arith, nat_tests)

also-parts : (c a : ℕ) (test : ℕ → Bool) → also c test a ≡ true → (a ≡ c) ⊎ ((nat_eq a c ≡ false) × (test a ≡ true))
also-parts c a test e = elim (cases_Bool (nat_eq a c)) [ inl k ↦ inl (eqb-true a c k) | inr k ↦ inr (k, rw k at e) ]

module _ (s t : State) (x : Activation) (on out : ℕ → Bool) (nodes : Nodes) (k : ℕ) (p : FrameNode) (tree : IsFrameTree s on out nodes) (at : nodes k ≡ Some p) (more : t.activations ≡ s.activations ++ x ∷ [])
    (owner : x.parent ≡ Some p.activation) where
  abbrev c : ℕ
  c = length t.activations

  long : length t.activations ≡ suc (length s.activations)
  long = omega (arith, simp length-append at (ap (λ (xs : List Activation). length xs) more))

  newest : activation_of t c ≡ x
  newest = ap (activation_of t) long ∙ activation-last s t x more

  new-parent : parent_of t c ≡ Some p.activation
  new-parent = ap (λ (z : Activation). z.parent) newest ∙ owner

  new-apart : (a : ℕ) → a ≤ length s.activations → nat_eq a c ≡ false
  new-apart a le = ne_eqb a c (λ same. omega (arith, long))

  -- how many children are out
  children-more : (b : ℕ) → children_out t (also c out) b ≡ children_out s out b + (if nat_eq p.activation b then 1 else 0)
  children-more b =
      ap (count_up_to is) long
      ∙ (ap (λ m. m + (if is (suc (length s.activations)) then 1 else 0)) (count-same is (λ d. out d && is_just b (parent_of s d)) (length s.activations) (λ d one le. rw (new-apart d le) (λ i. out d && is_just b (activation-kept s t x d more le i).parent)))
      ∙ ap (λ z. children_out s out b + (if z then 1 else 0)) (ap is (sym long) ∙ (ap (λ z. z && is_just b (parent_of t c)) (also-itself c out) ∙ ap (is_just b) new-parent)))
    where
      is : ℕ → Bool
      is d = also c out d && is_just b (parent_of t d)

  -- and a new one has none
  none-yet : children_out t (also c out) c ≡ 0
  none-yet =
      let other = new-apart p.activation (tree.made p.activation (tree.shown k p at).out_is).1 in
      elim (cases_lt 0 (children_out s out c)) [
        | inl some ↦ let child = a-child s out c some in absurd (omega (arith, (tree.made c (parent-out s on out nodes child.0 c tree child.2 child.3)).1, long))
        | inr none ↦ children-more c ∙ rw other (omega arith)
      ]

  -- what was needed is, and the new one is on a stack
  pub needed-entered : AreNeededBut None s on out → AreNeededBut None t (also c on) (also c out)
  needed-entered wanted a e none = elim (also-parts c a out e) [
    | inl same ↦ inl (ap (also c on) same ∙ also-itself c on)
    | inr there ↦ elim (wanted a there.1 refl) [ inl on_stack ↦ inl (rw there.0 on_stack) | inr some ↦ inr (omega (arith, children-more a)) ]
  ]

module _ (s t : State) (x : Activation) (on out : ℕ → Bool) (nodes : Nodes) (first cells v k : ℕ) (p : FrameNode) (tree : IsFrameTree s on out nodes) (free : nodes v ≡ None) (at : nodes k ≡ Some p) (more : t.activations ≡ s.activations ++ x ∷ [])
    (owner : x.parent ≡ Some p.activation) where
  abbrev new : FrameNode
  new = new_node (length t.activations) x.unit first cells k

  abbrev next : Nodes
  next = with_node nodes v new k

  -- how a node stands in the new tree
  abbrev Stands : FrameNode → Type 0
  Stands m = IsFrameNode t (also (length t.activations) on) (also (length t.activations) out) next m

  key-apart : (l : ℕ) (r : FrameNode) → nodes l ≡ Some r → nat_eq l v ≡ false
  key-apart l r e = grind (arith, nat_tests, free)

  entered-before : (l : ℕ) (m : FrameNode) → next l ≡ Some m → ((l ≡ v) × (new ≡ m)) ⊎ IsFrom (nodes l) (nat_eq l k) with_one_more m
  entered-before l m e = elim (cases_Bool (nat_eq l v)) [
    | inl j ↦ inl (eqb-true l v j, same_Some new m (rw j at e))
    | inr j ↦ inr (node-before with_one_more (λ r. refl) (nat_eq l k) (nodes l) m (rw j at e))
  ]

  -- the keys of parents stay
  under-stays : (o q : Option ℕ) → activation_under nodes o ≡ Some q → activation_under next o ≡ Some q
  under-stays None q e = e
  under-stays (Some l) q e =
      let found = mapped_from (λ (m : FrameNode). Some m.activation) (nodes l) q e in
      rw (key-apart l found.0 found.1) (same-under with_one_more (λ r. refl) (nat_eq l k) (nodes l) ∙ e)

  old-known : (l : ℕ) (r : FrameNode) → nodes l ≡ Some r → Stands (if nat_eq l k then with_one_more r else r)
  old-known l r e =
      cond_both (nat_eq l k) (with_one_more r) r Stands (λ j. with_children (r.children + 1) (grind (arith, nat_tests, counted, e, at, old.children_are))) (λ j. with_children r.children (grind (arith, nat_tests, counted, old.children_are, tree.single l k r p e at)))
    where
      old : IsFrameNode s on out nodes r
      old = tree.shown l r e

      made : r.activation ≤ length s.activations
      made = (tree.made r.activation old.out_is).1

      kept : activation_of t r.activation ≡ activation_of s r.activation
      kept = activation-kept s t x r.activation more made

      apart : nat_eq r.activation (length t.activations) ≡ false
      apart = new-apart s t x on out nodes k p tree at more owner r.activation made

      counted : children_out t (also (length t.activations) out) r.activation ≡ children_out s out r.activation + (if nat_eq p.activation r.activation then 1 else 0)
      counted = children-more s t x on out nodes k p tree at more owner r.activation

      with_children : (m : ℕ) → m ≡ children_out t (also (length t.activations) out) r.activation → Stands (record r { children = m })
      with_children m are =
          record {
            out_is = rw apart old.out_is;
            unit_is = old.unit_is ∙ ap (λ (z : Activation). z.unit) (sym kept);
            parent_is = under-stays r.parent (parent_of s r.activation) old.parent_is ∙ ap (λ (z : Activation). Some z.parent) (sym kept);
            children_are = are;
            finished_is = rw apart old.finished_is;
          }

  new-known : Stands new
  new-known =
      record {
        out_is = also-itself (length t.activations) out;
        unit_is = ap (λ (z : Activation). z.unit) (sym (newest s t x on out nodes k p tree at more owner));
        parent_is = under-stays (Some k) (Some p.activation) (ap (option_map (λ (m : FrameNode). Some m.activation)) at) ∙ ap (λ o. Some o) (sym (new-parent s t x on out nodes k p tree at more owner));
        children_are = sym (none-yet s t x on out nodes k p tree at more owner);
        finished_is = ap not (sym (also-itself (length t.activations) on));
      }

  abbrev is-longer : length t.activations ≡ suc (length s.activations)
  is-longer = long s t x on out nodes k p tree at more owner

  made-before : (l : ℕ) (m : FrameNode) → IsFrom (nodes l) (nat_eq l k) with_one_more m → m.activation ≤ length s.activations
  made-before l m old = subst (λ a. a ≤ length s.activations) old.owner (tree.made old.was.activation (tree.shown l old.was old.there).out_is).1

  pub tree-entered : IsFrameTree t (also (length t.activations) on) (also (length t.activations) out) next
  tree-entered =
      record {
        shown = λ l m e. elim (entered-before l m e) [ inl new ↦ subst Stands new.1 new-known | inr old ↦ subst Stands old.now (old-known l old.was old.there) ];
        found = λ a e. elim (also-parts (length t.activations) a out e) [
          | inl same ↦ (v, new, rw (eq-eqb v v refl) refl, sym same)
          | inr there ↦
              let old = tree.found a there.1 in
              let now = node-after with_one_more (λ r. refl) (nat_eq old.0 k) (nodes old.0) old.1 old.2 in
              (old.0, now.0, rw (key-apart old.0 old.1 old.2) now.1, now.2 ∙ old.3)
        ];
        single = λ l q m r e f same. elim (entered-before l m e) [
          | inl one ↦ elim (entered-before q r f) [
            | inl two ↦ one.0 ∙ sym two.0
            | inr two ↦ absurd (omega (arith, ap (λ (z : FrameNode). z.activation) one.1, made-before q r two, is-longer))
          ]
          | inr one ↦ elim (entered-before q r f) [
            | inl two ↦ absurd (omega (arith, ap (λ (z : FrameNode). z.activation) two.1, made-before l m one, is-longer))
            | inr two ↦ tree.single l q one.was two.was one.there two.there (one.owner ∙ (same ∙ sym two.owner))
          ]
        ];
        stacked = λ a e. elim (also-parts (length t.activations) a on e) [
          | inl same ↦ ap (also (length t.activations) out) same ∙ also-itself (length t.activations) out
          | inr there ↦ rw there.0 (tree.stacked a there.1)
        ];
        made = λ a e. elim (also-parts (length t.activations) a out e) [
          | inl same ↦ (omega (arith, same, is-longer), omega (arith, same))
          | inr there ↦ let old = tree.made a there.1 in (old.0, omega (arith, old.1, is-longer))
        ];
      }

  pub framed-entered : (layout : Layout) → frame_among (length t.activations) layout ≡ None → AreFramed layout nodes → AreFramed (with_frame layout (record { activation = (length t.activations); first = first; cells = cells })) next
  framed-entered layout none h l m e = elim (entered-before l m e) [
    | inl new ↦ subst (HasFrame (with_frame layout frame)) new.1 (among (length t.activations) ∙ rw (eq-eqb (length t.activations) (length t.activations) refl) refl)
    | inr old ↦ subst (HasFrame (with_frame layout frame)) old.now (framed-node (with_frame layout frame) (nat_eq l k) with_one_more old.was (λ g. g) (still old.was old.there))
  ] where
    frame : Frame
    frame = record { activation = length t.activations; first = first; cells = cells }

    among : (a : ℕ) → frame_among a (with_frame layout frame) ≡ (if nat_eq (length t.activations) a then Some frame else frame_among a layout)
    among a = among-with_frame a layout frame none

    still : (r : FrameNode) → nodes l ≡ Some r → HasFrame (with_frame layout frame) r
    still r there =
        let made = (tree.made r.activation (tree.shown l r there).out_is).1 in
        let other : nat_eq (length t.activations) r.activation ≡ false = ne_eqb (length t.activations) r.activation (λ same. omega (arith, same, made, is-longer)) in
        among r.activation ∙ rw other (h l r there)

-- ---- the frames of nodes

pub framed-ended : (layout : Layout) (nodes : Nodes) (k : ℕ) → AreFramed layout nodes → AreFramed layout (with_ended nodes k)
framed-ended layout nodes k h l m e =
    let old = node-before with_end (λ r. refl) (nat_eq l k) (nodes l) m e in
    subst (HasFrame layout) old.now (framed-node layout (nat_eq l k) with_end old.was (λ g. g) (h l old.was old.there))

pub framed-left : (s : State) (on out : ℕ → Bool) (layout : Layout) (nodes : Nodes) (k : ℕ) (n : FrameNode) → IsFrameTree s on out nodes → nodes k ≡ Some n → AreSingle layout → AreFramed layout nodes → AreFramed (without n.activation layout) (without_node nodes k n)
framed-left s on out layout nodes k n tree at single h l m e =
    let kept = kept-node nodes k n l m e in
    let old = kept.1 in
    let other : nat_eq n.activation old.was.activation ≡ false = ne_eqb n.activation old.was.activation (λ same. eqb-false l k kept.0 (tree.single l k old.was n old.there at (sym same))) in
    subst (HasFrame (without n.activation layout)) old.now (
    framed-node (without n.activation layout) (is_just l n.parent) with_one_less old.was (λ g. g) (among-without n.activation old.was.activation layout single ∙ rw other (h l old.was old.there)))

-- ---- the layout of what is out

-- without a frame of an activation, it makes no difference whether that is out
filter-but : (out : ℕ → Bool) (x : ℕ) (fs : Layout) → frame_among x fs ≡ None → filter (λ (f : Frame). out f.activation) fs ≡ filter (λ (f : Frame). but x out f.activation) fs
filter-but out x [] e = refl
filter-but out x (f ∷ fs) e = grind (arith, nat_tests, filter-but out x fs)

pub filter-without : (out : ℕ → Bool) (x : ℕ) (fs : Layout) → AreSingle fs → without x (filter (λ (f : Frame). out f.activation) fs) ≡ filter (λ (f : Frame). but x out f.activation) fs
filter-without out x [] h = refl
filter-without out x (g ∷ gs) h = grind (arith, nat_tests, filter-without out x gs h.1, filter-but out x gs, h.0)
