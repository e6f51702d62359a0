-- Keys that are noted by the numbers of activations.
use Rattle.std.proofs.Common.{◌≡◌, inl, inr, ◌⊎◌, ℕ, zero, suc, ◌+◌, ◌-◌, ◌<◌, ◌≤◌, Bool, true, false, List, [], ◌∷◌, ◌++◌, length, Option, Some, None, refl, sym, ap, ◌∙◌, subst, arith, if◌then◌else◌, nat_eq, slice_get, slice_set, get_or}
use Rattle.std.specs.Option.{option_map_or, option_or}
use Rattle.std.specs.List.{flat_map}
use Rattle.std.proofs.lemmas.Bool.{cases_Bool, eqb-true, eqb-false}
use Rattle.std.proofs.lemmas.List.{length-set}
use Rattle.std.proofs.lemmas.Option.{none-some, same_Some, slice_get-get_or, slice_get_within}
use Rattle.hep_arena.proofs.Lists.{get-set_same, get-set_other}
use Rattle.hep_layout.specs.Words.{FrameNode, Nodes}
use Rattle.hep_proc.specs.declared.process.Local.{Local}
use Rattle.hep_proc.specs.declared.process.Process.{Process}
use Rattle.hep_proc.specs.Stacks.{keys_of, Stack}
use Rattle.hep_views.specs.Nodes.{is_of, node_above, node_among, parent_in}
use Rattle.hep_state_text.specs.NodeKeys.{AreFrom, AreKeys, AreNoted, IsClosedAt, IsForest, IsNoted, IsOnFirst, StayNoted}

-- ---- one key more

module _ (keys : List (Option ℕ)) (j key : ℕ) where
  abbrev with_key : List (Option ℕ)
  with_key = slice_set keys j (Some key)

  pub set-noted : j < length keys → IsNoted with_key j
  set-noted less = (key, get-set_same keys j (Some key) less)

  pub set-still : j < length keys → StayNoted keys with_key
  set-still less = record { count = length-set keys j (Some key); still = still } where
    still : (i : ℕ) → IsNoted keys i → IsNoted with_key i
    still i noted = elim (cases_Bool (nat_eq i j)) [
      | inl e ↦ subst (IsNoted with_key) (sym (eqb-true i j e)) (set-noted less)
      | inr e ↦ (noted.0, get-set_other keys j i (Some key) (eqb-false i j e) ∙ noted.1)
    ]

  pub set-keys : (nodes : Nodes) (n : FrameNode) → nodes key ≡ Some n → n.activation ≡ suc j → j < length keys → AreKeys nodes keys → AreKeys nodes with_key
  set-keys nodes n there is less are i k e = elim (cases_Bool (nat_eq i j)) [
    | inl t ↦
        let here : i ≡ j = eqb-true i j t in
        let same : Some key ≡ Some k = same_Some (Some key) (Some k) (sym (get-set_same keys j (Some key) less) ∙ ap (slice_get with_key) (sym here) ∙ e) in
        (n, ap nodes (sym (same_Some key k same)) ∙ there, is ∙ ap suc (sym here))
    | inr t ↦ are i k (sym (get-set_other keys j i (Some key) (eqb-false i j t)) ∙ e)
  ]

  -- what is noted then was noted before, or it is this key
  pub set-from : (i k : ℕ) → slice_get with_key i ≡ Some (Some k) → j < length keys → (slice_get keys i ≡ Some (Some k)) ⊎ (key ≡ k)
  set-from i k e less = elim (cases_Bool (nat_eq i j)) [
    | inl t ↦ inr (same_Some key k (same_Some (Some key) (Some k) (sym (get-set_same keys j (Some key) less) ∙ ap (slice_get with_key) (sym (eqb-true i j t)) ∙ e)))
    | inr t ↦ inl (sym (get-set_other keys j i (Some key) (eqb-false i j t)) ∙ e)
  ]

-- it is the key of one of the levels
pub from-next : (old : List (Option ℕ)) (levels : List Local) (keys : List (Option ℕ)) (j index : ℕ) (l : Local) → slice_get levels index ≡ Some l → j < length keys
    → AreFrom old levels keys → AreFrom old levels (slice_set keys j (Some l.key))
from-next old levels keys j index l here less from i key e = elim (set-from keys j l.key i key e less) [
  | inl was ↦ from i key was
  | inr same ↦ inr (index, l, here, same)
]

-- and so of one of the processes so far
pub on-next : (processes : List Process) (n : ℕ) (q : Process) (old new : List (Option ℕ)) → slice_get processes n ≡ Some q → AreFrom old q.levels.items new
    → ((i key : ℕ) → slice_get old i ≡ Some (Some key) → IsOnFirst processes n key) → (i key : ℕ) → slice_get new i ≡ Some (Some key) → IsOnFirst processes (n + 1) key
on-next processes n q old new there from so i key e = elim (from i key e) [
  | inl was ↦ let it = so i key was in (it.0, it.1, omega (arith, it.2), it.3, it.4)
  | inr own ↦ (n, q, omega arith, there, own)
]

pub stay-both : (a b c : List (Option ℕ)) → StayNoted a b → StayNoted b c → StayNoted a c
stay-both a b c h k = record { count = k.count ∙ h.count; still = λ i n. k.still i (h.still i n) }

-- ---- the parent of one that is noted

module _ (nodes : Nodes) where
  -- what is noted at an index is one key with one node
  same-node : (keys : List (Option ℕ)) (i key other : ℕ) (n m : FrameNode) → slice_get keys i ≡ Some (Some key) → slice_get keys i ≡ Some (Some other)
      → nodes key ≡ Some n → nodes other ≡ Some m → n ≡ m
  same-node keys i key other n m e f there here =
      let same : key ≡ other = same_Some key other (same_Some (Some key) (Some other) (sym e ∙ f)) in
      same_Some n m (sym there ∙ ap nodes same ∙ here)

  pub closed-parent : (keys : List (Option ℕ)) (i key above : ℕ) (n up : FrameNode) → slice_get keys i ≡ Some (Some key) → nodes key ≡ Some n → n.parent ≡ Some above → nodes above ≡ Some up
      → up.activation - 1 < i → i < length keys → IsClosedAt nodes (slice_set keys (up.activation - 1) (Some above)) i
  closed-parent keys i key above n up e there parent found less inside other next m upper f here parent_m found_m =
      let apart : i ≡ up.activation - 1 → ⊥ = λ same. omega (arith, less, same) in
      let was = sym (get-set_other keys (up.activation - 1) i (Some above) apart) ∙ f in
      let same = same-node keys i key other n m e was there here in
      let next_is : above ≡ next = same_Some above next (sym parent ∙ ap (λ (z : FrameNode). z.parent) same ∙ parent_m) in
      let upper_is : up ≡ upper = same_Some up upper (sym found ∙ ap nodes next_is ∙ found_m) in
      subst (λ (z : FrameNode). IsNoted (slice_set keys (up.activation - 1) (Some above)) (z.activation - 1)) upper_is (set-noted keys (up.activation - 1) above (omega (arith, less, inside)))

-- what is known of the parent that is looked up
pub record HasParent (nodes : Nodes) (keys : List (Option ℕ)) (index key above : ℕ) : Type 0 where
  pub at : slice_get keys index ≡ Some (Some key)
  pub node : FrameNode
  pub there : nodes key ≡ Some node
  pub number : node.activation ≡ suc index
  pub parent : node.parent ≡ Some above
  pub up : FrameNode
  pub found : nodes above ≡ Some up
  pub less : up.activation < node.activation
  pub made : (1 ≤ up.activation) × (up.activation ≤ length keys)

pub has-parent : (nodes : Nodes) (keys : List (Option ℕ)) → IsForest nodes (length keys) → AreKeys nodes keys → (index key above : ℕ) (value parent : Option ℕ) → index < length keys
    → value ≡ get_or keys index value → value ≡ Some key → ((n : FrameNode) → nodes key ≡ Some n → parent ≡ n.parent) → parent ≡ Some above → HasParent nodes keys index key above
has-parent nodes keys forest are index key above value parent inside read some parents is =
    let at : slice_get keys index ≡ Some (Some key) = slice_get-get_or keys index value inside ∙ ap (λ o. Some o) (sym read ∙ some) in
    let node = are index key at in
    let up = sym (parents node.0 node.1) ∙ is in
    let above_it = forest.older key above node.0 node.1 up in
    record {
      at = at;
      node = node.0;
      there = node.1;
      number = node.2;
      parent = up;
      up = above_it.0;
      found = above_it.1;
      less = above_it.2;
      made = forest.made above above_it.0 above_it.1;
    }

-- ---- one level or one process more

noted-still : (nodes : Nodes) (levels : List Local) (old new : List (Option ℕ)) → StayNoted old new → AreNoted nodes levels old → AreNoted nodes levels new
noted-still nodes levels old new stay noted i l n e f = stay.still (n.activation - 1) (noted i l n e f)

pub levels-next : (nodes : Nodes) (levels : List Local) (old new : List (Option ℕ)) (i : ℕ) (l : Local) (n : FrameNode) → slice_get levels i ≡ Some l → nodes l.key ≡ Some n
    → StayNoted old new → IsNoted new (n.activation - 1)
    → ((m : ℕ) (k : Local) (o : FrameNode) → m < i → slice_get levels m ≡ Some k → nodes k.key ≡ Some o → IsNoted old (o.activation - 1))
    → (m : ℕ) (k : Local) (o : FrameNode) → m < i + 1 → slice_get levels m ≡ Some k → nodes k.key ≡ Some o → IsNoted new (o.activation - 1)
levels-next nodes levels old new i l n e f stay now before m k o less g h = elim (cases_Bool (nat_eq m i)) [
  | inl t ↦
      let same : l ≡ k = same_Some l k (sym e ∙ ap (slice_get levels) (sym (eqb-true m i t)) ∙ g) in
      let node : n ≡ o = same_Some n o (sym f ∙ ap (λ (z : Local). nodes z.key) same ∙ h) in
      subst (λ (z : FrameNode). IsNoted new (z.activation - 1)) node now
  | inr t ↦
      let other = eqb-false m i t in
      stay.still (o.activation - 1) (before m k o (omega (arith, less, other)) g h)
]

pub processes-next : (nodes : Nodes) (qs : List Process) (old new : List (Option ℕ)) (i : ℕ) (q : Process) → slice_get qs i ≡ Some q → StayNoted old new → AreNoted nodes q.levels.items new
    → ((m : ℕ) (r : Process) → m < i → slice_get qs m ≡ Some r → AreNoted nodes r.levels.items old)
    → (m : ℕ) (r : Process) → m < i + 1 → slice_get qs m ≡ Some r → AreNoted nodes r.levels.items new
processes-next nodes qs old new i q e stay now before m r less g = elim (cases_Bool (nat_eq m i)) [
  | inl t ↦
      let same : q ≡ r = same_Some q r (sym e ∙ ap (slice_get qs) (sym (eqb-true m i t)) ∙ g) in
      subst (λ (z : Process). AreNoted nodes z.levels.items new) same now
  | inr t ↦
      let other = eqb-false m i t in
      noted-still nodes r.levels.items old new stay (before m r (omega (arith, less, other)) g)
]

pub all-still : (nodes : Nodes) (qs : List Process) (old new : List (Option ℕ)) (n : ℕ) → length qs ≤ n → StayNoted old new
    → ((m : ℕ) (r : Process) → m < n → slice_get qs m ≡ Some r → AreNoted nodes r.levels.items old)
    → (m : ℕ) (r : Process) → slice_get qs m ≡ Some r → AreNoted nodes r.levels.items new
all-still nodes qs old new n few stay noted m r e =
    let inside = slice_get_within qs m r e in
    noted-still nodes r.levels.items old new stay (noted m r (omega (arith, inside, few)) e)

-- ---- upwards from what is noted

module _ (nodes : Nodes) (count : ℕ) (forest : IsForest nodes count) (keys : List (Option ℕ)) (are : AreKeys nodes keys) (closed : (i : ℕ) → IsClosedAt nodes keys i)
    (single : (k l : ℕ) (m n : FrameNode) → nodes k ≡ Some m → nodes l ≡ Some n → m.activation ≡ n.activation → k ≡ l) (a : ℕ) where
  -- the node under a key, if any, is noted
  abbrev pub IsNotedUnder : ℕ → Type 0
  IsNotedUnder key = (n : FrameNode) → nodes key ≡ Some n → IsNoted keys (n.activation - 1)

  -- the parent of one that is noted is so
  parent-noted : (key above : ℕ) (n : FrameNode) → nodes key ≡ Some n → n.parent ≡ Some above → IsNotedUnder key → IsNotedUnder above
  parent-noted key above n there parent noted m here =
      let made = forest.made key n there in
      let at = noted n there in
      let own = are (n.activation - 1) at.0 at.1 in
      let number : n.activation ≡ suc (n.activation - 1) = omega (arith, made.0) in
      let same : key ≡ at.0 = single key at.0 n own.0 there own.1 (number ∙ sym own.2) in
      closed (n.activation - 1) key above n m (at.1 ∙ ap (λ k. Some (Some k)) (sym same)) there parent here

  above-noted : (most key : ℕ) (x : FrameNode) → IsNotedUnder key → node_above nodes a most key ≡ Some x → IsNoted keys (a - 1)
  above-noted zero key x noted e = absurd (none-some x e)
  above-noted (suc most) key x noted e = by_node (above-noted most) (nodes key) refl e where
    by_parent : ((above : ℕ) (x : FrameNode) → IsNotedUnder above → node_above nodes a most above ≡ Some x → IsNoted keys (a - 1)) → (n : FrameNode) → nodes key ≡ Some n
        → (o : Option ℕ) → n.parent ≡ o → option_map_or (node_above nodes a most) o None ≡ Some x → IsNoted keys (a - 1)
    by_parent rest n there None p h = absurd (none-some x h)
    by_parent rest n there (Some above) p h = rest above x (parent-noted key above n there p noted) h

    by_test : ((above : ℕ) (x : FrameNode) → IsNotedUnder above → node_above nodes a most above ≡ Some x → IsNoted keys (a - 1)) → (n : FrameNode) → nodes key ≡ Some n
        → (b : Bool) → nat_eq n.activation a ≡ b → (if b then Some n else option_map_or (node_above nodes a most) n.parent None) ≡ Some x → IsNoted keys (a - 1)
    by_test rest n there true t h = subst (λ b. IsNoted keys (b - 1)) (eqb-true n.activation a t) (noted n there)
    by_test rest n there false t h = by_parent rest n there n.parent refl h

    by_node : ((above : ℕ) (x : FrameNode) → IsNotedUnder above → node_above nodes a most above ≡ Some x → IsNoted keys (a - 1)) → (o : Option FrameNode) → nodes key ≡ o
        → (if is_of a o then o else option_map_or (node_above nodes a most) (parent_in o) None) ≡ Some x → IsNoted keys (a - 1)
    by_node rest None there h = absurd (none-some x h)
    by_node rest (Some n) there h = by_test rest n there (nat_eq n.activation a) refl h

  -- and so is each of several
  abbrev pub AreNotedUnder : List ℕ → Type 0
  AreNotedUnder [] = Unit {0}
  AreNotedUnder (k ∷ ks) = IsNotedUnder k × AreNotedUnder ks

  pub among-noted : (most : ℕ) (ks : List ℕ) → AreNotedUnder ks → (IsNoted keys (a - 1) → ⊥) → node_among nodes a most ks ≡ None
  among-noted most [] all absent = refl
  among-noted most (k ∷ ks) all absent = by_first (among-noted most ks all.1 absent) (node_above nodes a most k) refl where
    by_first : node_among nodes a most ks ≡ None → (o : Option FrameNode) → node_above nodes a most k ≡ o → option_or o (node_among nodes a most ks) ≡ None
    by_first rest None e = rest
    by_first rest (Some x) e = absurd (absent (above-noted most k x all.0 e))

  pub noted-both : (ks ls : List ℕ) → AreNotedUnder ks → AreNotedUnder ls → AreNotedUnder (ks ++ ls)
  noted-both [] ls h k = k
  noted-both (x ∷ ks) ls h k = (h.0, noted-both ks ls h.1 k)

  noted-levels : (ls : List Local) → AreNoted nodes ls keys → AreNotedUnder (keys_of ls)
  noted-levels [] h = tt
  noted-levels (l ∷ ls) h = (λ n e. h 0 l n refl e, noted-levels ls (λ i k n e f. h (suc i) k n e f))

  pub noted-stacks : (ks : List Stack) → ((i : ℕ) (k : Stack) → slice_get ks i ≡ Some k → AreNoted nodes k.levels keys) → AreNotedUnder (flat_map (λ (k : Stack). keys_of k.levels) ks)
  noted-stacks [] h = tt
  noted-stacks (k ∷ ks) h =
      noted-both (keys_of k.levels) (flat_map (λ (k : Stack). keys_of k.levels) ks) (noted-levels k.levels (h 0 k refl)) (noted-stacks ks (λ i j e. h (suc i) j e))
