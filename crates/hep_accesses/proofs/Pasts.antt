-- What is collected along a run are the steps before each one.
use Rattle.std.proofs.Common.{◌≡◌, inl, inr, ◌⊎◌, ℕ, suc, ◌+◌, ◌<◌, ◌≤◌, Bool, true, false, ◌&&◌, nat_eq, List, [], ◌∷◌, length, take}
use Rattle.std.proofs.Common.{Option, Some, None, refl, sym, ap, ◌∙◌, subst, arith, if◌then◌else◌, slice_get}
use Rattle.std.proofs.lemmas.Bool.{and_parts, and_from, both_ways, cases_lt, eqb-true, eq-eqb, or_cases, or_left, or_right}
use Rattle.std.proofs.lemmas.Option.{same_Some}
use Rattle.hep_accesses.specs.HappensBefore.{Synchronizes, IsBefore, IsDirectlyBefore, IsUnchangedBetween, directly, transitively}
use Rattle.hep_accesses.specs.Pasts.{Past, before_at, before_step, past_of_need, empty_past, past_after, past_from, with_step}
use Rattle.hep_accesses.specs.Events.{Event, leads_to}
use Rattle.hep_accesses.proofs.Elements.{length-of_take, slice_get-of_take}

module _ {L S : Type 0} (es : List (Event L S)) where
  -- this step, or one before it
  abbrev pub IsUpTo : ℕ → ℕ → Type 0
  IsUpTo i k = (i ≡ k) ⊎ IsBefore es i k

  -- what is up to a step is before those that this one is directly before
  pub extended : {i j k : ℕ} → IsUpTo i j → IsDirectlyBefore es j k → IsBefore es i k
  extended {i} {j} {k} (inl e) d = directly (subst (λ (m : ℕ). IsDirectlyBefore es m k) (sym e) d)
  extended (inr b) d = transitively b d

  -- process p knows of step i after n steps
  pub record IsKnown (n p i : ℕ) : Type 0 where
    pub step : ℕ
    pub event : Event L S
    pub is : slice_get es step ≡ Some event
    pub earlier : step < n
    pub leads : leads_to event p ≡ true
    pub upto : IsUpTo i step

  -- the latest change of a storage unit has left it
  pub record IsLeft (n : ℕ) (at : L) (i : ℕ) : Type 0 where
    pub step : ℕ
    pub event : Event L S
    pub is : slice_get es step ≡ Some event
    pub earlier : step < n
    pub changed : event.changes at ≡ true
    pub latest : IsUnchangedBetween es step n at
    pub upto : IsUpTo i step

  -- the past after n steps is what is known and what is left
  pub record IsPastAt (n : ℕ) (x : Past L) : Type 0 where
    pub known : (p i : ℕ) → x.of_process p i ≡ true → IsKnown n p i
    pub all_known : (p i : ℕ) → IsKnown n p i → x.of_process p i ≡ true
    pub left : (at : L) (i : ℕ) → x.of_location at i ≡ true → IsLeft n at i
    pub all_left : (at : L) (i : ℕ) → IsLeft n at i → x.of_location at i ≡ true

  -- ---- one step

  module _ (n : ℕ) (x : Past L) (h : IsPastAt n x) (e : Event L S) (f : slice_get es n ≡ Some e) where
    -- what the past of the needed state has is before the step
    from-left : (i : ℕ) (o : Option L) → e.needs ≡ o → past_of_need x o i ≡ true → IsBefore es i n
    from-left i None g b = absurd (grind arith)
    from-left i (Some at) g b =
        let w = h.left at i b in
        extended w.upto (record {
          first = w.event;
          second = e;
          first_is = w.is;
          second_is = f;
          earlier = w.earlier;
          why = inr (record { at = at; needed = g; changed = w.changed; latest = w.latest });
        })

    -- what is collected before step n is before it
    pub before-sound : (i : ℕ) → before_step x e i ≡ true → IsBefore es i n
    before-sound i b = by (or_cases (x.of_process e.process i) (past_of_need x e.needs i) b)
      where
        by : (x.of_process e.process i ≡ true) ⊎ (past_of_need x e.needs i ≡ true) → IsBefore es i n
        by (inl k) =
            let w = h.known e.process i k in
            extended w.upto (record { first = w.event; second = e; first_is = w.is; second_is = f; earlier = w.earlier; why = inl w.leads })
        by (inr k) = from-left i e.needs refl k

    -- what is up to a step that is directly before step n is collected
    reached : (i j : ℕ) → IsUpTo i j → IsDirectlyBefore es j n → before_step x e i ≡ true
    reached i j u d = by d.why
      where
        same : d.second ≡ e
        same = same_Some d.second e (sym d.second_is ∙ f)

        by : (leads_to d.first d.second.process ≡ true) ⊎ Synchronizes es j n d.first d.second → before_step x e i ≡ true
        by (inl leads) =
            or_left (x.of_process e.process i) (past_of_need x e.needs i) (
            h.all_known e.process i (record {
              step = j;
              event = d.first;
              is = d.first_is;
              earlier = d.earlier;
              leads = subst (λ (g : Event L S). leads_to d.first g.process ≡ true) same leads;
              upto = u;
            }))
        by (inr hands) =
            or_right (x.of_process e.process i) (past_of_need x e.needs i) (
            ap (λ o. past_of_need x o i) (subst (λ (g : Event L S). g.needs ≡ Some hands.at) same hands.needed) ∙
            h.all_left hands.at i
            (record {
              step = j;
              event = d.first;
              is = d.first_is;
              earlier = d.earlier;
              changed = hands.changed;
              latest =
                  hands.latest;
              upto = u;
            }))

    -- what is before step n is collected
    pub before-complete : (i : ℕ) → IsBefore es i n → before_step x e i ≡ true
    before-complete i (directly d) = reached i i (inl refl) d
    before-complete i (transitively {j = j} b d) = reached i j (inr b) d

    -- this step, and those before it
    with-sound : (i : ℕ) → with_step n (before_step x e) i ≡ true → IsUpTo i n
    with-sound i b = by (or_cases (nat_eq i n) (before_step x e i) b)
      where
        by : (nat_eq i n ≡ true) ⊎ (before_step x e i ≡ true) → IsUpTo i n
        by (inl k) = inl (eqb-true i n k)
        by (inr k) = inr (before-sound i k)

    -- and all of it
    with-complete : (i : ℕ) → IsUpTo i n → with_step n (before_step x e) i ≡ true
    with-complete i (inl k) = or_left (nat_eq i n) (before_step x e i) (eq-eqb i n k)
    with-complete i (inr k) = or_right (nat_eq i n) (before_step x e i) (before-complete i k)

    -- after the step each process knows what is collected
    known-after : (p i : ℕ) → (past_after n x e).of_process p i ≡ true → IsKnown (suc n) p i
    known-after p i b = by (or_cases (leads_to e p && with_step n (before_step x e) i) (x.of_process p i) b)
      where
        by : ((leads_to e p && with_step n (before_step x e) i) ≡ true) ⊎ (x.of_process p i ≡ true) → IsKnown (suc n) p i
        by (inl k) =
            let both = and_parts (leads_to e p) (with_step n (before_step x e) i) k in
            record { step = n; event = e; is = f; earlier = omega arith; leads = both.0; upto = with-sound i both.1 }
        by (inr k) =
            let w = h.known p i k in
            record { step = w.step; event = w.event; is = w.is; earlier = omega (arith, w.earlier); leads = w.leads; upto = w.upto }

    -- and all of that is collected
    all-known-after : (p i : ℕ) → IsKnown (suc n) p i → (past_after n x e).of_process p i ≡ true
    all-known-after p i w = by (cases_lt w.step n)
      where
        here : w.step ≡ n → (past_after n x e).of_process p i ≡ true
        here same =
            let event_same : w.event ≡ e = same_Some w.event e (sym (subst (λ k. slice_get es k ≡ Some w.event) same w.is) ∙ f) in
            or_left (leads_to e p && with_step n (before_step x e) i) (x.of_process p i) (
            and_from (leads_to e p) (with_step n (before_step x e) i) (subst (λ (g : Event L S). leads_to g p ≡ true) event_same w.leads) (
            with-complete i (subst (λ k. IsUpTo i k) same w.upto)))

        by : (w.step < n) ⊎ (n ≤ w.step) → (past_after n x e).of_process p i ≡ true
        by (inl k) =
            or_right (leads_to e p && with_step n (before_step x e) i) (x.of_process p i) (
            h.all_known p i (record { step = w.step; event = w.event; is = w.is; earlier = k; leads = w.leads; upto = w.upto }))
        by (inr k) = here (omega (arith, w.earlier))

    -- a step that leaves a state as it was comes between no change and its use
    latest-more : (j : ℕ) (at : L) → e.changes at ≡ false → IsUnchangedBetween es j n at → IsUnchangedBetween es j (suc n) at
    latest-more j at stays q m g above below is = by (cases_lt m n)
      where
        by : (m < n) ⊎ (n ≤ m) → g.changes at ≡ false
        by (inl k) = q m g above k is
        by (inr k) =
            let same : m ≡ n = omega arith in
            let event_same : g ≡ e = same_Some g e (sym (subst (λ k. slice_get es k ≡ Some g) same is) ∙ f) in
            subst (λ (d : Event L S). d.changes at ≡ false) (sym event_same) stays

    -- after the step a state has the past that is collected
    left-after : (at : L) (i : ℕ) (b : Bool) → e.changes at ≡ b → (if b then with_step n (before_step x e) i else x.of_location at i) ≡ true
        → IsLeft (suc n) at i
    left-after at i true g k =
        record {
          step = n;
          event = e;
          is = f;
          earlier = omega arith;
          changed = g;
          latest =
              λ m d above below is. absurd (omega arith);
          upto = with-sound i k;
        }
    left-after at i false g k =
        let w = h.left at i k in
        record {
          step = w.step;
          event = w.event;
          is = w.is;
          earlier = omega (arith, w.earlier);
          changed = w.changed;
          latest = latest-more w.step at g w.latest;
          upto = w.upto;
        }

    -- and all of that past is collected
    all-left-after : (at : L) (i : ℕ) (b : Bool) → e.changes at ≡ b → IsLeft (suc n) at i
        → (if b then with_step n (before_step x e) i else x.of_location at i) ≡ true
    all-left-after at i true g w = by (cases_lt w.step n)
      where
        by : (w.step < n) ⊎ (n ≤ w.step) → with_step n (before_step x e) i ≡ true
        by (inl k) = absurd (both_ways (e.changes at) (w.latest n e k (omega arith) f) g)
        by (inr k) =
            let same : w.step ≡ n = omega (arith, w.earlier) in
            with-complete i (subst (λ k. IsUpTo i k) same w.upto)
    all-left-after at i false g w = by (cases_lt w.step n)
      where
        by : (w.step < n) ⊎ (n ≤ w.step) → x.of_location at i ≡ true
        by (inl k) =
            h.all_left at i (record {
              step = w.step;
              event = w.event;
              is = w.is;
              earlier = k;
              changed = w.changed;
              latest = λ m d above below is. w.latest m d above (omega arith) is;
              upto = w.upto;
            })
        by (inr k) =
            let same : w.step ≡ n = omega (arith, w.earlier) in
            let event_same : w.event ≡ e = same_Some w.event e (sym (subst (λ k. slice_get es k ≡ Some w.event) same w.is) ∙ f) in
            absurd (both_ways (e.changes at) g (subst (λ (d : Event L S). d.changes at ≡ true) event_same w.changed))

    -- a step more
    pub past-more : IsPastAt (suc n) (past_after n x e)
    past-more =
        record {
          known = known-after;
          all_known = all-known-after;
          left = λ at i k. left-after at i (e.changes at) refl k;
          all_left = λ at i w. all-left-after at i (e.changes at) refl w;
        }

  -- ---- a run

  -- before the first step
  pub nothing : IsPastAt 0 empty_past
  nothing =
      record {
        known = λ p i k. absurd (grind arith);
        all_known = λ p i w. absurd (omega (arith, w.earlier));
        left = λ at i k. absurd (grind arith);
        all_left = λ at i w. absurd (omega (arith, w.earlier));
      }

  -- several steps more
  pub along : (n : ℕ) (x : Past L) (ds : List (Event L S))
      → ((m : ℕ) (d : Event L S) → slice_get ds m ≡ Some d → slice_get es (n + m) ≡ Some d) → IsPastAt n x
      → IsPastAt (n + length ds) (past_from n x ds)
  unfolding past_from
  along n x [] own h = subst (λ k. IsPastAt k x) (omega arith) h
  along n x (d ∷ ds) own h =
      let there : slice_get es n ≡ Some d = subst (λ k. slice_get es k ≡ Some d) (omega arith) (own 0 d refl) in
      subst (λ k. IsPastAt k (past_from (suc n) (past_after n x d) ds)) (omega arith) (
      along (suc n) (past_after n x d) ds (λ m g is. subst (λ k. slice_get es k ≡ Some g) (omega arith) (own (suc m) g is))
      (past-more n x h d there))

  -- the past before each step of a run
  pub past-at : (k : ℕ) (e : Event L S) → slice_get es k ≡ Some e → IsPastAt k (past_from 0 empty_past (take k es))
  past-at k e f =
      subst (λ m. IsPastAt m (past_from 0 empty_past (take k es))) (omega (arith, length-of_take es k e f)) (
      along 0 empty_past (take k es) (λ m d is. subst (λ j. slice_get es j ≡ Some d) (omega arith) (slice_get-of_take es k m d is)) nothing)

  -- what is collected before a step of a run is before it
  pub before-at-sound : (i k : ℕ) (e : Event L S) → slice_get es k ≡ Some e → before_at es k e i ≡ true → IsBefore es i k
  before-at-sound i k e f = before-sound k (past_from 0 empty_past (take k es)) (past-at k e f) e f i

  -- what is before a step of a run is collected
  pub before-at-complete : (i k : ℕ) (e : Event L S) → slice_get es k ≡ Some e → IsBefore es i k → before_at es k e i ≡ true
  before-at-complete i k e f = before-complete k (past_from 0 empty_past (take k es)) (past-at k e f) e f i
