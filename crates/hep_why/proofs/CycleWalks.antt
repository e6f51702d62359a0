-- Circles, by the places at which indexes stand in them.
use Rattle.std.proofs.Common.{◌≡◌, inl, inr, ◌⊎◌, ℕ, zero, suc, ◌+◌, ◌<◌, ◌≤◌, min, Bool, true, false, List, [], ◌∷◌, length, drop, set, Option, Some, None, refl, sym, ap, ◌∙◌, subst, arith, if◌then◌else◌, nat_eq, nat_lt, slice_get}
use Rattle.std.specs.Option.{option_flatten, option_map}
use Rattle.std.proofs.lemmas.Bool.{eqb-false, eqb-true}
use Rattle.std.proofs.lemmas.Bool.Decides.{nat_tests}
use Rattle.std.proofs.lemmas.List.{length-drop, length-set}
use Rattle.std.proofs.lemmas.Option.{none-some, same_Some, slice_get_within}
use Rattle.hep_why.specs.WaitCycles.{circle_at, circle_by, circle_from, next_at}
use Rattle.hep_why.specs.CycleMarks.{AreNoted, IsIn, IsNoted}
use Rattle.hep_arena.proofs.Lists.{get-set_same, get-set_other}
use Rattle.hep_source.proofs.Tests.{get-drop}

module _ (nexts : List (Option ℕ)) (first : ℕ) where
  -- ---- one step

  -- this one is the last
  pub record IsEnd (m i j : ℕ) (rest : List ℕ) : Type 0 where
    pub back : j ≡ first
    pub rest_is : rest ≡ i ∷ []
    pub some : 1 ≤ m

  -- there are more behind it
  pub record HasMore (m i j : ℕ) (rest : List ℕ) : Type 0 where
    pub left : ℕ
    pub many : m ≡ suc left
    pub above : first < j
    pub others : List ℕ
    pub leads : circle_from nexts first left j ≡ Some others
    pub rest_is : rest ≡ i ∷ others

  pub record GoesOn (m i : ℕ) (rest : List ℕ) : Type 0 where
    pub next : ℕ
    pub is_next : next_at nexts i ≡ Some next
    pub so : IsEnd m i next rest ⊎ HasMore m i next rest

  pub goes : (m i : ℕ) (rest : List ℕ) → circle_from nexts first m i ≡ Some rest → GoesOn m i rest
  unfolding circle_from
  goes zero i rest e = absurd (none-some rest e)
  goes (suc m) i rest e = by_next (next_at nexts i) refl e
    where
      by_more : (j : ℕ) (o : Option (List ℕ)) → next_at nexts i ≡ Some j → first < j → circle_from nexts first m j ≡ o
          → option_map (λ (js : List ℕ). i ∷ js) o ≡ Some rest → GoesOn (suc m) i rest
      by_more j None f above g e = absurd (none-some rest e)
      by_more j (Some js) f above g e =
          record {
            next = j;
            is_next = f;
            so = inr (record { left = m; many = refl; above = above; others = js; leads = g; rest_is = sym (same_Some (i ∷ js) rest e) });
          }

      by_order : (j : ℕ) (b : Bool) → nat_lt first j ≡ b → next_at nexts i ≡ Some j
          → (if b then option_map (λ (js : List ℕ). i ∷ js) (circle_from nexts first m j) else None) ≡ Some rest → GoesOn (suc m) i rest
      by_order j true t f e = by_more j (circle_from nexts first m j) f (grind (arith, nat_tests, t)) refl e
      by_order j false t f e = absurd (none-some rest e)

      by_end : (j : ℕ) (b : Bool) → nat_eq j first ≡ b → next_at nexts i ≡ Some j
          → (if b then Some (i ∷ []) else (if nat_lt first j then option_map (λ (js : List ℕ). i ∷ js) (circle_from nexts first m j) else None))
          ≡ Some rest
          → GoesOn (suc m) i rest
      by_end j true t f e =
          record { next = j; is_next = f; so = inl (record { back = eqb-true j first t; rest_is = sym (same_Some (i ∷ []) rest e); some = omega arith }) }
      by_end j false t f e = by_order j (nat_lt first j) refl f e

      by_next : (o : Option ℕ) → next_at nexts i ≡ o → circle_by first i (circle_from nexts first m) o ≡ Some rest → GoesOn (suc m) i rest
      by_next None f e = absurd (none-some rest e)
      by_next (Some j) f e = by_end j (nat_eq j first) refl f e

  -- ---- places

  pub head-is : (m i : ℕ) (rest : List ℕ) → circle_from nexts first m i ≡ Some rest → slice_get rest 0 ≡ Some i
  head-is m i rest e = by (goes m i rest e).so
    where
      by : {j : ℕ} → IsEnd m i j rest ⊎ HasMore m i j rest → slice_get rest 0 ≡ Some i
      by (inl h) = ap (λ (xs : List ℕ). slice_get xs 0) h.rest_is
      by (inr h) = ap (λ (xs : List ℕ). slice_get xs 0) h.rest_is

  pub no-longer : (m i : ℕ) (rest : List ℕ) → circle_from nexts first m i ≡ Some rest → length rest ≤ m
  no-longer zero i rest e = by (goes zero i rest e).so
    where
      by : {j : ℕ} → IsEnd zero i j rest ⊎ HasMore zero i j rest → length rest ≤ zero
      by (inl h) = omega (arith, h.some)
      by (inr h) = omega (arith, h.many)
  no-longer (suc m) i rest e = by (goes (suc m) i rest e).so (λ j js. no-longer m j js)
    where
      by : {j : ℕ} → IsEnd (suc m) i j rest ⊎ HasMore (suc m) i j rest
          → ((j : ℕ) (js : List ℕ) → circle_from nexts first m j ≡ Some js → length js ≤ m) → length rest ≤ suc m
      by (inl h) further = omega (arith, ap length h.rest_is)
      by {j} (inr h) further =
          let same : h.left ≡ m = omega (arith, h.many) in
          let less = further j h.others (ap (λ k. circle_from nexts first k j) (sym same) ∙ h.leads) in
          omega (arith, ap length h.rest_is, less)

  -- from what stands at a place the rest of the circle is left
  pub record HasRest (m : ℕ) (rest : List ℕ) (place x : ℕ) : Type 0 where
    pub most : ℕ
    pub others : List ℕ
    pub leads : circle_from nexts first most x ≡ Some others
    pub is : others ≡ drop place rest
    pub not_less : first ≤ x

  pub rest-at : (place m i x : ℕ) (rest : List ℕ) → first ≤ i → circle_from nexts first m i ≡ Some rest → slice_get rest place ≡ Some x
      → HasRest m rest place x
  rest-at zero m i x rest above e there =
      let same : i ≡ x = same_Some i x (sym (head-is m i rest e) ∙ there) in
      record { most = m; others = rest; leads = ap (circle_from nexts first m) (sym same) ∙ e; is = refl; not_less = subst (λ y. first ≤ y) same above }
  rest-at (suc place) m i x rest above e there = by (goes m i rest e).so (λ n j js. rest-at place n j x js)
    where
      by : {j : ℕ} → IsEnd m i j rest ⊎ HasMore m i j rest
          → ((n j : ℕ) (js : List ℕ) → first ≤ j → circle_from nexts first n j ≡ Some js → slice_get js place ≡ Some x → HasRest n js place x)
          → HasRest m rest (suc place) x
      by (inl h) further = absurd (none-some x (sym (ap (λ (xs : List ℕ). slice_get xs (suc place)) h.rest_is) ∙ there))
      by {j} (inr h) further =
          let r =
          further h.left j h.others (omega (arith, h.above)) h.leads
          (sym (ap (λ (xs : List ℕ). slice_get xs (suc place)) h.rest_is) ∙ there) in
          record { most = r.most; others = r.others; leads = r.leads; is = r.is ∙ ap (drop (suc place)) (sym h.rest_is); not_less = r.not_less }

  -- what is left doesn't depend on how many are looked at
  pub determined : (m n i : ℕ) (rest others : List ℕ) → circle_from nexts first m i ≡ Some rest → circle_from nexts first n i ≡ Some others
      → rest ≡ others
  determined zero n i rest others e f = by (goes zero i rest e).so
    where
      by : {j : ℕ} → IsEnd zero i j rest ⊎ HasMore zero i j rest → rest ≡ others
      by (inl h) = absurd (omega (arith, h.some))
      by (inr h) = absurd (omega (arith, h.many))
  determined (suc m) n i rest others e f =
      let g = goes (suc m) i rest e in
      let h = goes n i others f in
      by g.so h.so (same_Some g.next h.next (sym g.is_next ∙ h.is_next)) (λ k j js ks. determined m k j js ks)
    where
      by : {j k : ℕ} → IsEnd (suc m) i j rest ⊎ HasMore (suc m) i j rest → IsEnd n i k others ⊎ HasMore n i k others → j ≡ k
          → ((k j : ℕ) (js ks : List ℕ) → circle_from nexts first m j ≡ Some js → circle_from nexts first k j ≡ Some ks → js ≡ ks)
          → rest ≡ others
      by (inl a) (inl b) same further = a.rest_is ∙ sym b.rest_is
      by (inl a) (inr b) same further = absurd (omega (arith, a.back, b.above, same))
      by (inr a) (inl b) same further = absurd (omega (arith, b.back, a.above, same))
      by {j} {k} (inr a) (inr b) same further =
          let here : a.left ≡ m = omega (arith, a.many) in
          let again =
          further b.left j a.others b.others
          (ap (λ n. circle_from nexts first n j) (sym here) ∙ a.leads) (ap (circle_from nexts first b.left) same ∙ b.leads) in
          a.rest_is ∙ ap (λ (js : List ℕ). i ∷ js) again ∙ sym b.rest_is

-- ---- lists

-- ---- standing in a circle

module _ (nexts : List (Option ℕ)) where
  rest-of : (first i : ℕ) (h : IsIn nexts first i) → HasRest nexts first (length nexts) h.circle h.place i
  rest-of first i h = rest-at nexts first h.place (length nexts) first i h.circle (omega arith) h.is h.there

  pub not-less : (first i : ℕ) → IsIn nexts first i → first ≤ i
  not-less first i h = (rest-of first i h).not_less

  pub first-in : (first : ℕ) (circle : List ℕ) → circle_at nexts first ≡ Some circle → IsIn nexts first first
  first-in first circle e = record { circle = circle; is = e; place = 0; there = head-is nexts first (length nexts) first circle e }

  pub one-circle : (first i j : ℕ) (h : IsIn nexts first i) (k : IsIn nexts first j) → h.circle ≡ k.circle
  one-circle first i j h k = same_Some h.circle k.circle (sym h.is ∙ k.is)

  -- it stands in it once
  pub one-place : (first i : ℕ) (h k : IsIn nexts first i) → h.place ≡ k.place
  one-place first i h k =
      let r = rest-of first i h in
      let s = rest-of first i k in
      let same : h.circle ≡ k.circle = one-circle first i i h k in
      let others = determined nexts first r.most s.most i r.others s.others r.leads s.leads in
      let left : length (drop h.place h.circle) ≡ length (drop k.place k.circle) = ap length (sym r.is ∙ others ∙ s.is) in
      let here = slice_get_within h.circle h.place i h.there in
      let there = slice_get_within k.circle k.place i k.there in
      omega (arith, sym (length-drop h.place h.circle) ∙ left ∙ length-drop k.place k.circle, here, there, ap length same)

  -- the next one stands at the next place, or is the first one
  pub record IsNextIn (first i : ℕ) (h : IsIn nexts first i) (j : ℕ) : Type 0 where
    pub found : IsIn nexts first j
    pub so : (j ≡ first) ⊎ (found.place ≡ suc h.place)

  pub next-in : (first i j : ℕ) (h : IsIn nexts first i) → next_at nexts i ≡ Some j → IsNextIn first i h j
  next-in first i j h e =
      let r = rest-of first i h in
      let g = goes nexts first r.most i r.others r.leads in
      by g.next r.most r.others g.so r.is (same_Some g.next j (sym g.is_next ∙ e))
    where
      by : (n m : ℕ) (rest : List ℕ) → IsEnd nexts first m i n rest ⊎ HasMore nexts first m i n rest → rest ≡ drop h.place h.circle → n ≡ j
          → IsNextIn first i h j
      by n m rest (inl a) is same =
          let back : j ≡ first = sym same ∙ a.back in
          record {
            found =
                record {
                  circle = h.circle;
                  is = h.is;
                  place = 0;
                  there = head-is nexts first (length nexts) first h.circle h.is ∙ ap (λ (x : ℕ). Some x) (sym back);
                };
            so = inl back;
          }
      by n m rest (inr a) is same =
          let second : slice_get rest 1 ≡ Some j =
          ap (λ (xs : List ℕ). slice_get xs 1) a.rest_is ∙ head-is nexts first a.left n a.others a.leads ∙ ap (λ (x : ℕ). Some x) same in
          let at : suc h.place ≡ h.place + 1 = omega arith in
          record {
            found =
                record {
                  circle = h.circle;
                  is = h.is;
                  place = suc h.place;
                  there = ap (slice_get h.circle) at ∙ get-drop h.circle h.place 1 ∙ ap (λ (xs : List ℕ). slice_get xs 1) (sym is) ∙ second;
                };
            so = inr refl;
          }

  -- there is a next one
  pub none-in : (first i : ℕ) → IsIn nexts first i → next_at nexts i ≡ None → ⊥
  none-in first i h e =
      let r = rest-of first i h in
      let g = goes nexts first r.most i r.others r.leads in
      none-some g.next (sym e ∙ g.is_next)

  -- one that leads on has its place
  pub next-within : (i j : ℕ) → next_at nexts i ≡ Some j → i < length nexts
  next-within i j e = by (slice_get nexts i) refl e
    where
      by : (o : Option (Option ℕ)) → slice_get nexts i ≡ o → option_flatten o ≡ Some j → i < length nexts
      by None f g = absurd (none-some j g)
      by (Some n) f g = slice_get_within nexts i n f

  pub first-within : (first i : ℕ) → IsIn nexts first i → first < length nexts
  first-within first i h =
      let g = goes nexts first (length nexts) first h.circle h.is in
      next-within first g.next g.is_next

  -- ---- the least one in a circle

  -- so many steps from a start: the least one so far is the first one, or that one wasn't met yet
  pub record IsAlong (first start : ℕ) (h : IsIn nexts first start) (counter at least : ℕ) : Type 0 where
    pub here : IsIn nexts first at
    pub not_less : first ≤ least
    pub not_more : least ≤ start
    pub so : (least ≡ first) ⊎ (here.place ≡ h.place + counter)

  pub along-first : (first start : ℕ) (h : IsIn nexts first start) → IsAlong first start h 0 start start
  along-first first start h = record { here = h; not_less = not-less first start h; not_more = omega arith; so = inr (omega arith) }

  pub along-on : (first start : ℕ) (h : IsIn nexts first start) (counter at least next : ℕ) → IsAlong first start h counter at least
      → next_at nexts at ≡ Some next
      → IsAlong first start h (counter + 1) next (min least next)
  along-on first start h counter at least next a e =
      let n = next-in first at next a.here e in
      let above = not-less first next n.found in
      record {
        here = n.found;
        not_less = omega (arith, a.not_less, above);
        not_more = omega (arith, a.not_more);
        so = by n.found.place a.so n.so above;
      }
    where
      by : (place : ℕ) → (least ≡ first) ⊎ (a.here.place ≡ h.place + counter) → (next ≡ first) ⊎ (place ≡ suc a.here.place) → first ≤ next
          → (min least next ≡ first) ⊎ (place ≡ h.place + (counter + 1))
      by place (inl e) _ above = inl (omega (arith, e, above))
      by place (inr e) (inl f) above = inl (omega (arith, f, a.not_less))
      by place (inr e) (inr f) above = inr (omega (arith, e, f))

  pub along-back : (first start : ℕ) (h : IsIn nexts first start) (counter at least next : ℕ) → IsAlong first start h counter at least
      → next_at nexts at ≡ Some next
      → next ≡ start → least ≡ first
  along-back first start h counter at least next a e back =
      let n = next-in first at next a.here e in
      by n.found a.so n.so
    where
      by : (found : IsIn nexts first next) → (least ≡ first) ⊎ (a.here.place ≡ h.place + counter)
          → (next ≡ first) ⊎ (found.place ≡ suc a.here.place) → least ≡ first
      by found (inl e) _ = e
      by found (inr e) (inl f) = omega (arith, f, back, a.not_less, a.not_more)
      by found (inr e) (inr f) =
          let again : IsIn nexts first next =
          record { circle = h.circle; is = h.is; place = h.place; there = h.there ∙ ap (λ (x : ℕ). Some x) (sym back) } in
          let same = one-place first next found again in
          absurd (omega (arith, e, f, same))

  pub along-none : (first start : ℕ) (h : IsIn nexts first start) (counter at least : ℕ) → IsAlong first start h counter at least
      → next_at nexts at ≡ None → least ≡ first
  along-none first start h counter at least a e = absurd (none-in first at a.here e)

  pub along-all : (first start : ℕ) (h : IsIn nexts first start) (counter at least : ℕ) → IsAlong first start h counter at least
      → length nexts ≤ counter → least ≡ first
  along-all first start h counter at least a many = by a.so
    where
      by : (least ≡ first) ⊎ (a.here.place ≡ h.place + counter) → least ≡ first
      by (inl e) = e
      by (inr e) =
          let here = slice_get_within a.here.circle a.here.place at a.here.there in
          let few = no-longer nexts first (length nexts) first a.here.circle a.here.is in
          absurd (omega (arith, e, here, few, many))

  -- ---- notes

  pub noted-back : (noted : List Bool) (i j : ℕ) → next_at nexts i ≡ Some j → IsNoted nexts noted j → IsNoted nexts noted i
  noted-back noted i j e so first h = so first (next-in first i j h e).found

  pub noted-none : (noted : List Bool) (i : ℕ) → next_at nexts i ≡ None → IsNoted nexts noted i
  noted-none noted i e first h = absurd (none-in first i h e)

  -- a walk from a first one has come to an index, where these were visited before
  pub record IsWalking (old visits : List (Option ℕ)) (first at : ℕ) : Type 0 where
    pub room : length visits ≡ length nexts
    pub whose : (i w : ℕ) → slice_get visits i ≡ Some (Some w) → (w ≡ first) ⊎ (slice_get old i ≡ Some (Some w))
    pub visited : (noted : List Bool) → AreNoted nexts old noted → IsNoted nexts noted at → AreNoted nexts visits noted
    pub begun : (noted : List Bool) → AreNoted nexts old noted → IsNoted nexts noted at → IsNoted nexts noted first

  pub walking-on : (old visits : List (Option ℕ)) (first at next : ℕ) → IsWalking old visits first at → next_at nexts at ≡ Some next
      → at < length visits
      → IsWalking old (set visits at (Some first)) first next
  walking-on old visits first at next w e less =
      record {
        room = length-set visits at (Some first) ∙ w.room;
        whose = whose;
        visited = visited;
        begun = λ noted before so. w.begun noted before (noted-back noted at next e so);
      }
    where
      whose : (i v : ℕ) → slice_get (set visits at (Some first)) i ≡ Some (Some v) → (v ≡ first) ⊎ (slice_get old i ≡ Some (Some v))
      whose i v there = by (nat_eq i at) refl
        where
          by : (b : Bool) → nat_eq i at ≡ b → (v ≡ first) ⊎ (slice_get old i ≡ Some (Some v))
          by true t =
              let here : Some (Some first) ≡ Some (Some v) =
              sym (get-set_same visits at (Some first) less) ∙ ap (slice_get (set visits at (Some first))) (sym (eqb-true i at t))
              ∙ there in
              inl (sym (same_Some first v (same_Some (Some first) (Some v) here)))
          by false t = w.whose i v (sym (get-set_other visits at i (Some first) (eqb-false i at t)) ∙ there)

      visited : (noted : List Bool) → AreNoted nexts old noted → IsNoted nexts noted next
          → AreNoted nexts (set visits at (Some first)) noted
      visited noted before so i v there = by (nat_eq i at) refl
        where
          by : (b : Bool) → nat_eq i at ≡ b → IsNoted nexts noted i
          by true t = subst (IsNoted nexts noted) (sym (eqb-true i at t)) (noted-back noted at next e so)
          by false t =
              w.visited noted before (noted-back noted at next e so) i v
              (sym (get-set_other visits at i (Some first) (eqb-false i at t)) ∙ there)

  -- where it comes to one that another walk visited
  pub walking-met : (old visits : List (Option ℕ)) (first at other : ℕ) (noted : List Bool) → IsWalking old visits first at
      → slice_get visits at ≡ Some (Some other) → (other ≡ first → ⊥)
      → AreNoted nexts old noted → IsNoted nexts noted at
  walking-met old visits first at other noted w there not before = by (w.whose at other there)
    where
      by : (other ≡ first) ⊎ (slice_get old at ≡ Some (Some other)) → IsNoted nexts noted at
      by (inl e) = absurd (not e)
      by (inr e) = before at other e

-- ---- one more note

pub still-noted : (noted : List Bool) (least first : ℕ) → least < length noted → slice_get noted first ≡ Some true
    → slice_get (set noted least true) first ≡ Some true
still-noted noted least first less there = by (nat_eq first least) refl
  where
    by : (b : Bool) → nat_eq first least ≡ b → slice_get (set noted least true) first ≡ Some true
    by true t = ap (slice_get (set noted least true)) (eqb-true first least t) ∙ get-set_same noted least true less
    by false t = get-set_other noted least first true (eqb-false first least t) ∙ there
