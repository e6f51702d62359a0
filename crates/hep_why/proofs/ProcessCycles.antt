-- Circles of processes, by those of their indexes.
use Rattle.std.proofs.Common.{◌≡◌, ℕ, zero, suc, ◌+◌, ◌<◌, ◌≤◌, Bool, true, false, List, [], ◌∷◌, ◌++◌, length, map, Option, Some, None, refl, sym, ap, ◌∙◌, subst, arith, nat_eq, nat_lt, slice_get}
use Rattle.std.specs.Option.{option_map_or}
use Rattle.std.proofs.lemmas.Bool.{eqb-false, eqb-true, ne_eqb}
use Rattle.std.proofs.lemmas.Bool.Decides.{nat_tests}
use Rattle.std.proofs.lemmas.List.{map-append}
use Rattle.std.proofs.lemmas.Option.{none-some, same_Some}
use Rattle.hep_why.specs.WaitCycles.{circle_at, circles_among, circles_of, index_from, index_of, next_at, next_of_change, nexts_of, process_at}
use Rattle.hep_why.specs.CycleMarks.{IsIn}
use Rattle.hep_why.specs.CycleLaws.{AreDistinct, BeginsWithLeast, IsAmong, IsCircle, LeadBack, LeadsTo, Rise, WaitsFor}
use Rattle.hep_why.specs.declared.reason.Reason.{Reason}
use Rattle.hep_why.proofs.CycleLinks.{lead, next-at-reason, next-changed}
use Rattle.hep_why.proofs.CycleLists.{IsTurned, is-from, is-turned}
use Rattle.hep_why.proofs.CycleWalks.{none-in, not-less, one-place}

-- ---- reasons whose processes rise

abbrev process : Reason → ℕ
process r = r.listed.process

tail-rises : (r : Reason) (rs : List Reason) → Rise (r ∷ rs) → Rise rs
tail-rises r rs rise i j s t here there less = rise (suc i) (suc j) s t here there (omega (arith, less))

index-found : (rs : List Reason) (i k : ℕ) (r : Reason) → Rise rs → slice_get rs k ≡ Some r
    → index_from i r.listed.process rs ≡ Some (i + k)
index-found [] i k r rise there = absurd (none-some r there)
index-found (s ∷ rs) i zero r rise there =
    let same : nat_eq s.listed.process r.listed.process ≡ true = grind (arith, nat_tests, ap process (same_Some s r there)) in
    rw same (ap (λ (x : ℕ). Some x) (omega arith))
index-found (s ∷ rs) i (suc k) r rise there =
    let less : s.listed.process < r.listed.process = rise 0 (suc k) s r refl there (omega arith) in
    let other : nat_eq s.listed.process r.listed.process ≡ false =
    ne_eqb s.listed.process r.listed.process (λ same. omega (arith, same, less)) in
    rw other (index-found rs (suc i) k r (tail-rises s rs rise) there ∙ ap (λ (x : ℕ). Some x) (omega arith))

module _ (reasons : List Reason) where
  abbrev nexts : List (Option ℕ)
  nexts = nexts_of reasons

  abbrev f : ℕ → ℕ
  f = process_at reasons

  process-is : (i : ℕ) (r : Reason) → slice_get reasons i ≡ Some r → f i ≡ r.listed.process
  process-is i r there = ap (λ o. option_map_or process o 0) there

  -- ---- from indexes to processes

  waits-for : (i j : ℕ) → next_at nexts i ≡ Some j → WaitsFor reasons (f i) (f j)
  waits-for i j e =
      let h = next-changed reasons i j e in
      record {
        place = i;
        reason = h.0;
        change = h.1;
        there = h.3;
        waits = sym (process-is i h.0 h.3);
        latest = h.4;
        changed = sym (process-is j h.2 h.5 ∙ h.6);
      }

  map-leads : (first : ℕ) (is : List ℕ) → LeadBack (LeadsTo nexts) first is → LeadBack (WaitsFor reasons) (f first) (map f is)
  map-leads first [] h = h
  map-leads first (i ∷ []) h = waits-for i first h
  map-leads first (i ∷ j ∷ js) h = (waits-for i j h.0, map-leads first (j ∷ js) h.1)

  -- what stands at a place of processes
  pub record IsAt (xs : List ℕ) (k p : ℕ) : Type 0 where
    pub index : ℕ
    pub there : slice_get xs k ≡ Some index
    pub is : f index ≡ p

  at-place : (is : List ℕ) (k p : ℕ) → slice_get (map f is) k ≡ Some p → IsAt is k p
  at-place [] k p there = absurd (none-some p there)
  at-place (i ∷ is) zero p there = record { index = i; there = refl; is = same_Some (f i) p there }
  at-place (i ∷ is) (suc k) p there = let h = at-place is k p there in record { index = h.index; there = h.there; is = h.is }

  -- that of a list of lists
  pub record IsListAt (lists : List (List ℕ)) (k : ℕ) (ps : List ℕ) : Type 0 where
    pub list : List ℕ
    pub there : slice_get lists k ≡ Some list
    pub is : map f list ≡ ps

  list-at : (lists : List (List ℕ)) (k : ℕ) (ps : List ℕ) → slice_get (map (map f) lists) k ≡ Some ps → IsListAt lists k ps
  list-at [] k ps there = absurd (none-some ps there)
  list-at (x ∷ xs) zero ps there = record { list = x; there = refl; is = same_Some (map f x) ps there }
  list-at (x ∷ xs) (suc k) ps there = let h = list-at xs k ps there in record { list = h.list; there = h.there; is = h.is }

  -- one that has a next one has a reason
  pub record HasReason (i : ℕ) : Type 0 where
    pub reason : Reason
    pub there : slice_get reasons i ≡ Some reason

  has-reason : (i j : ℕ) → next_at nexts i ≡ Some j → HasReason i
  has-reason i j e = let h = next-changed reasons i j e in record { reason = h.0; there = h.3 }

  in-reason : (first i : ℕ) → IsIn nexts first i → HasReason i
  in-reason first i h = by (next_at nexts i) refl
    where
      by : (o : Option ℕ) → next_at nexts i ≡ o → HasReason i
      by None e = absurd (none-in nexts first i h e)
      by (Some j) e = has-reason i j e

  module _ (rise : Rise reasons) where
    -- of two that have reasons the one with the lesser process stands before
    one-index : (i j : ℕ) → HasReason i → HasReason j → f i ≡ f j → i ≡ j
    one-index i j a b same = by (nat_lt i j) (nat_lt j i) refl refl
      where
        same_process : a.reason.listed.process ≡ b.reason.listed.process
        same_process = sym (process-is i a.reason a.there) ∙ same ∙ process-is j b.reason b.there

        by : (c d : Bool) → nat_lt i j ≡ c → nat_lt j i ≡ d → i ≡ j
        by true d t u =
            let less : i < j = grind (arith, nat_tests, t) in
            let rises = rise i j a.reason b.reason a.there b.there less in
            absurd (omega (arith, rises, same_process))
        by false true t u =
            let less : j < i = grind (arith, nat_tests, u) in
            let rises = rise j i b.reason a.reason b.there a.there less in
            absurd (omega (arith, rises, same_process))
        by false false t u = grind (arith, nat_tests, t, u)

    no-less : (i j : ℕ) → HasReason i → HasReason j → i ≤ j → f i ≤ f j
    no-less i j a b less = by (nat_eq i j) refl
      where
        by : (c : Bool) → nat_eq i j ≡ c → f i ≤ f j
        by true t = omega (arith, ap f (eqb-true i j t))
        by false t =
            let not = eqb-false i j t in
            let above : i < j = grind (arith, less, not) in
            let rises = rise i j a.reason b.reason a.there b.there above in
            omega (arith, rises, process-is i a.reason a.there, process-is j b.reason b.there)

    -- ---- what is told of is a circle

    pub record IsTold (ps : List ℕ) : Type 0 where
      pub first : ℕ
      pub circle : List ℕ
      pub is : circle_at nexts first ≡ Some circle
      pub same : map f circle ≡ ps

    told : (place : ℕ) (ps : List ℕ) → slice_get (circles_among reasons) place ≡ Some ps → IsTold ps
    told place ps there =
        let h = list-at (circles_of nexts) place ps there in
        let k = is-from nexts 0 (length nexts) place h.list h.there in
        record { first = k.first; circle = h.list; is = k.is; same = h.is }

    in-place : (ps : List ℕ) (t : IsTold ps) (k p : ℕ) (h : IsAt t.circle k p) → IsIn nexts t.first h.index
    in-place ps t k p h = record { circle = t.circle; is = t.is; place = k; there = h.there }

    is-at : (ps : List ℕ) (t : IsTold ps) (k p : ℕ) → slice_get ps k ≡ Some p → IsAt t.circle k p
    is-at ps t k p there = at-place t.circle k p (ap (λ (xs : List ℕ). slice_get xs k) t.same ∙ there)

    first-at : (first : ℕ) (circle : List ℕ) → slice_get circle 0 ≡ Some first → slice_get (map f circle) 0 ≡ Some (f first)
    first-at first [] e = absurd (none-some first e)
    first-at first (i ∷ is) e = ap (λ (x : ℕ). Some (f x)) (same_Some i first e)

    pub told-circle : (place : ℕ) (ps : List ℕ) → slice_get (circles_among reasons) place ≡ Some ps → IsCircle reasons ps
    unfolding in-place
    told-circle place ps there =
        record {
          first = f t.first;
          begins = ap (λ (xs : List ℕ). slice_get xs 0) (sym t.same) ∙ first-at t.first t.circle leads.0;
          leads = subst (LeadBack (WaitsFor reasons) (f t.first)) t.same (map-leads t.first t.circle leads.1);
          distinct = distinct;
        }
      where
        t : IsTold ps
        t = told place ps there

        leads : (slice_get t.circle 0 ≡ Some t.first) × LeadBack (LeadsTo nexts) t.first t.circle
        leads = lead nexts t.first (length nexts) t.first t.circle t.is

        distinct : AreDistinct ps
        distinct i j p here also =
            let a = is-at ps t i p here in
            let b = is-at ps t j p also in
            let x = in-place ps t i p a in
            let y = in-place ps t j p b in
            let same = one-index a.index b.index (in-reason t.first a.index x) (in-reason t.first b.index y) (a.is ∙ sym b.is) in
            let z : IsIn nexts t.first a.index =
            record { circle = t.circle; is = t.is; place = j; there = b.there ∙ ap (λ (n : ℕ). Some n) (sym same) } in
            one-place nexts t.first a.index x z

    pub told-least : (place : ℕ) (ps : List ℕ) → slice_get (circles_among reasons) place ≡ Some ps → BeginsWithLeast ps
    told-least place ps there first i p begins at =
        let t = told place ps there in
        let a = is-at ps t 0 first begins in
        let b = is-at ps t i p at in
        let x = in-place ps t 0 first a in
        let y = in-place ps t i p b in
        let front = (lead nexts t.first (length nexts) t.first t.circle t.is).0 in
        let same : a.index ≡ t.first = same_Some a.index t.first (sym a.there ∙ front) in
        let below : a.index ≤ b.index = omega (arith, same, not-less nexts t.first b.index y) in
        omega (arith, a.is, b.is, no-less a.index b.index (in-reason t.first a.index x) (in-reason t.first b.index y) below)

    -- ---- from processes to indexes

    next-is : {p q t : ℕ} (a : WaitsFor reasons p q) (b : WaitsFor reasons q t) → next_at nexts a.place ≡ Some b.place
    next-is a b =
        next-at-reason reasons a.place a.reason a.there
        ∙ ap (next_of_change reasons) a.latest
        ∙ ap (λ (x : ℕ). index_of reasons x) (a.changed ∙ sym b.waits)
        ∙ index-found reasons 0 b.place b.reason rise b.there
        ∙ ap (λ (x : ℕ). Some x) (omega arith)

    -- the indexes of processes, which lead back to the one of another one
    pub record HaveIndexes (first p : ℕ) (ps : List ℕ) (index : ℕ) : Type 0 where
      pub others : List ℕ
      pub leads : LeadBack (LeadsTo nexts) first (index ∷ others)
      pub same : map f (index ∷ others) ≡ p ∷ ps

    head-of : (z p : ℕ) (ps : List ℕ) → LeadBack (WaitsFor reasons) z (p ∷ ps) → (q : ℕ) × WaitsFor reasons p q
    head-of z p [] h = (z, h)
    head-of z p (q ∷ ps) h = (q, h.0)

    have-indexes : (z t : ℕ) (w : WaitsFor reasons z t) (p : ℕ) (ps : List ℕ) (h : LeadBack (WaitsFor reasons) z (p ∷ ps))
        → HaveIndexes w.place p ps (head-of z p ps h).1.place
    unfolding head-of
    have-indexes z t w p [] h =
        record { others = []; leads = next-is h w; same = ap (λ (x : ℕ). x ∷ []) (process-is h.place h.reason h.there ∙ h.waits) }
    have-indexes z t w p (q ∷ ps) h =
        let k = have-indexes z t w q ps h.1 in
        record {
          others = (head-of z q ps h.1).1.place ∷ k.others;
          leads = (next-is h.0 (head-of z q ps h.1).1, k.leads);
          same = ap (λ (x : ℕ). x ∷ map f ((head-of z q ps h.1).1.place ∷ k.others)) (process-is h.0.place h.0.reason h.0.there ∙ h.0.waits)
              ∙ ap (λ (xs : List ℕ). p ∷ xs) k.same;
        }

    map-at : (is : List ℕ) (k i : ℕ) → slice_get is k ≡ Some i → slice_get (map f is) k ≡ Some (f i)
    map-at [] k i there = absurd (none-some i there)
    map-at (x ∷ xs) zero i there = ap (λ (y : ℕ). Some (f y)) (same_Some x i there)
    map-at (x ∷ xs) (suc k) i there = map-at xs k i there

    maps-at : (lists : List (List ℕ)) (k : ℕ) (xs : List ℕ) → slice_get lists k ≡ Some xs
        → slice_get (map (map f) lists) k ≡ Some (map f xs)
    maps-at [] k xs there = absurd (none-some xs there)
    maps-at (x ∷ ys) zero xs there = ap (λ (y : List ℕ). Some (map f y)) (same_Some x xs there)
    maps-at (x ∷ ys) (suc k) xs there = maps-at ys k xs there

    -- ---- each circle is told of

    is-told : (p : ℕ) (ps : List ℕ) (i : ℕ) → HaveIndexes i p ps i → AreDistinct (p ∷ ps) → IsAmong (circles_among reasons) (p ∷ ps)
    is-told p ps i h distinct =
        record {
          before = map f t.before;
          behind = map f t.behind;
          parts = sym h.same ∙ ap (map f) t.parts ∙ map-append f t.before t.behind;
          place = t.once.place;
          there = subst (λ (xs : List ℕ). slice_get (circles_among reasons) t.once.place ≡ Some xs)
              (map-append f t.behind t.before) (maps-at (circles_of nexts) t.once.place (t.behind ++ t.before) t.once.there);
          once = once;
        }
      where
        apart : AreDistinct (i ∷ h.others)
        apart j k x here there =
            let a = map-at (i ∷ h.others) j x here in
            let b = map-at (i ∷ h.others) k x there in
            distinct j k (f x) (ap (λ (xs : List ℕ). slice_get xs j) (sym h.same) ∙ a)
            (ap (λ (xs : List ℕ). slice_get xs k) (sym h.same) ∙ b)

        t : IsTurned nexts (i ∷ h.others)
        t = is-turned nexts i h.others h.leads apart

        once : (k : ℕ) → slice_get (circles_among reasons) k ≡ Some (map f t.behind ++ map f t.before) → k ≡ t.once.place
        once k there =
            let l = list-at (circles_of nexts) k (map f t.behind ++ map f t.before) there in
            let from = is-from nexts 0 (length nexts) k l.list l.there in
            let front = (lead nexts from.first (length nexts) from.first l.list from.is).0 in
            let ours = (lead nexts t.first (length nexts) t.first (t.behind ++ t.before) t.found).0 in
            let same_list : map f l.list ≡ map f (t.behind ++ t.before) = l.is ∙ sym (map-append f t.behind t.before) in
            let same_process : f from.first ≡ f t.first =
            same_Some (f from.first) (f t.first) (sym (map-at l.list 0 from.first front) ∙ ap (λ (xs : List ℕ). slice_get xs 0) same_list ∙ map-at (t.behind ++ t.before) 0 t.first ours) in
            let a : IsIn nexts from.first from.first = record { circle = l.list; is = from.is; place = 0; there = front } in
            let b : IsIn nexts t.first t.first = record { circle = t.behind ++ t.before; is = t.found; place = 0; there = ours } in
            let same : from.first ≡ t.first =
            one-index from.first t.first (in-reason from.first from.first a) (in-reason t.first t.first b) same_process in
            let list : l.list ≡ t.behind ++ t.before =
            same_Some l.list (t.behind ++ t.before) (sym from.is ∙ ap (circle_at nexts) same ∙ t.found) in
            t.once.once k (l.there ∙ ap (λ (xs : List ℕ). Some xs) list)

    pub circle-told : (ps : List ℕ) → IsCircle reasons ps → IsAmong (circles_among reasons) ps
    circle-told [] c = absurd (none-some c.first c.begins)
    circle-told (p ∷ ps) c =
        let same : p ≡ c.first = same_Some p c.first c.begins in
        let leads : LeadBack (WaitsFor reasons) p (p ∷ ps) = subst (λ z. LeadBack (WaitsFor reasons) z (p ∷ ps)) (sym same) c.leads in
        let w = head-of p p ps leads in
        is-told p ps w.1.place (have-indexes p w.0 w.1 p ps leads) c.distinct
