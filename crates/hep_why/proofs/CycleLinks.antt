-- Circles, from one to the next.
use Rattle.std.proofs.Common.{◌≡◌, ℕ, zero, suc, ◌+◌, ◌<◌, Bool, true, false, List, [], ◌∷◌, ◌++◌, Option, Some, None, refl, sym, ap, ◌∙◌, subst, arith, append_assoc, if◌then◌else◌, nat_eq, nat_lt, slice_get}
use Rattle.std.specs.Option.{option_flatten, option_map}
use Rattle.std.proofs.lemmas.Bool.{eqb-true, ne_eqb}
use Rattle.std.proofs.lemmas.Bool.Decides.{nat_tests}
use Rattle.std.proofs.lemmas.Option.{none-some, same_Some, slice_get-map}
use Rattle.hep_why.specs.WaitCycles.{circle_by, circle_from, index_from, next_at, next_of, next_of_change, nexts_of}
use Rattle.hep_why.specs.CycleLaws.{LeadBack, LeadsTo}
use Rattle.hep_why.specs.declared.reason.Change.{Change}
use Rattle.hep_why.specs.declared.reason.Reason.{Reason}

-- ---- a circle

module _ (nexts : List (Option ℕ)) (first : ℕ) where
  abbrev Leads : ℕ → List ℕ → Type 0
  Leads i is = (slice_get is 0 ≡ Some i) × LeadBack (LeadsTo nexts) first is

  longer : (i j : ℕ) (js : List ℕ) → next_at nexts i ≡ Some j → Leads j js → Leads i (i ∷ js)
  longer i j [] e h = absurd (none-some j h.0)
  longer i j (k ∷ ks) e h = (refl, (e ∙ ap (λ (x : ℕ). Some x) (sym (same_Some k j h.0)), h.1))

  pub lead : (n i : ℕ) (is : List ℕ) → circle_from nexts first n i ≡ Some is → Leads i is
  unfolding circle_from
  lead zero i is e = absurd (none-some is e)
  lead (suc n) i is e = by_next (next_at nexts i) refl e (λ j js. lead n j js)
    where
      with_more : (j : ℕ) (o : Option (List ℕ)) → next_at nexts i ≡ Some j → ((js : List ℕ) → o ≡ Some js → Leads j js)
          → option_map (λ (js : List ℕ). i ∷ js) o ≡ Some is → Leads i is
      with_more j None f further e = absurd (none-some is e)
      with_more j (Some js) f further e = subst (Leads i) (same_Some (i ∷ js) is e) (longer i j js f (further js refl))

      by_order : (j : ℕ) (b : Bool) → next_at nexts i ≡ Some j → ((js : List ℕ) → circle_from nexts first n j ≡ Some js → Leads j js)
          → (if b then option_map (λ (js : List ℕ). i ∷ js) (circle_from nexts first n j) else None) ≡ Some is → Leads i is
      by_order j true f further e = with_more j (circle_from nexts first n j) f further e
      by_order j false f further e = absurd (none-some is e)

      by_end : (j : ℕ) (b : Bool) → nat_eq j first ≡ b → next_at nexts i ≡ Some j
          → ((js : List ℕ) → circle_from nexts first n j ≡ Some js → Leads j js)
          → (if b then Some (i ∷ []) else (if nat_lt first j then option_map (λ (js : List ℕ). i ∷ js) (circle_from nexts first n j) else None))
          ≡ Some is
          → Leads i is
      by_end j true t f further e = subst (Leads i) (same_Some (i ∷ []) is e) (refl, f ∙ ap (λ (x : ℕ). Some x) (eqb-true j first t))
      by_end j false t f further e = by_order j (nat_lt first j) f further e

      by_next : (o : Option ℕ) → next_at nexts i ≡ o → circle_by first i (circle_from nexts first n) o ≡ Some is
          → ((j : ℕ) (js : List ℕ) → circle_from nexts first n j ≡ Some js → Leads j js) → Leads i is
      by_next None f e further = absurd (none-some is e)
      by_next (Some j) f e further = by_end j (nat_eq j first) refl f (further j) e

  -- ---- one turn of the loop that looks for it

  abbrev pub behind : List ℕ → Option (List ℕ) → Option (List ℕ)
  behind before o = option_map (λ (js : List ℕ). before ++ js) o

  pub ends : (before : List ℕ) (m i : ℕ) → next_at nexts i ≡ None → behind before (circle_from nexts first (suc m) i) ≡ None
  unfolding circle_from
  ends before m i e = ap (λ o. behind before (circle_by first i (circle_from nexts first m) o)) e

  pub closes : (before : List ℕ) (m i j : ℕ) → next_at nexts i ≡ Some j → j ≡ first
      → behind before (circle_from nexts first (suc m) i) ≡ Some (before ++ i ∷ [])
  unfolding circle_from
  closes before m i j e same =
      ap (λ o. behind before (circle_by first i (circle_from nexts first m) o)) e
      ∙ rw (is-same) refl
    where
      is-same : nat_eq j first ≡ true
      is-same = grind (arith, nat_tests, same)

  pub leaves : (before : List ℕ) (m i j : ℕ) → next_at nexts i ≡ Some j → j < first
      → behind before (circle_from nexts first (suc m) i) ≡ None
  unfolding circle_from
  leaves before m i j e less =
      ap (λ o. behind before (circle_by first i (circle_from nexts first m) o)) e
      ∙ rw (other, below) refl
    where
      other : nat_eq j first ≡ false
      other = ne_eqb j first (λ same. omega (arith, same, less))

      below : nat_lt first j ≡ false
      below = grind (arith, nat_tests, less)

  more-behind : (before : List ℕ) (i : ℕ) (o : Option (List ℕ))
      → behind before (option_map (λ (js : List ℕ). i ∷ js) o) ≡ behind (before ++ i ∷ []) o
  more-behind before i None = refl
  more-behind before i (Some js) = ap (λ (xs : List ℕ). Some xs) (sym (append_assoc before (i ∷ []) js))

  pub goes_on : (before : List ℕ) (m i j : ℕ) → next_at nexts i ≡ Some j → first < j
      → behind before (circle_from nexts first (suc m) i) ≡ behind (before ++ i ∷ []) (circle_from nexts first m j)
  unfolding circle_from
  goes_on before m i j e more =
      ap (λ o. behind before (circle_by first i (circle_from nexts first m) o)) e
      ∙ rw (other, above) (more-behind before i (circle_from nexts first m j))
    where
      other : nat_eq j first ≡ false
      other = ne_eqb j first (λ same. omega (arith, same, more))

      above : nat_lt first j ≡ true
      above = grind (arith, nat_tests, more)

  pub no-more : (before : List ℕ) (i : ℕ) → behind before (circle_from nexts first 0 i) ≡ None
  unfolding circle_from
  no-more before i = refl

  pub behind-none : (o : Option (List ℕ)) → behind [] o ≡ o
  behind-none None = refl
  behind-none (Some is) = refl

  pub begins : (n : ℕ) → behind [] (circle_from nexts first n first) ≡ circle_from nexts first n first
  begins n = behind-none (circle_from nexts first n first)

-- ---- the next ones

module _ (p : ℕ) where
  pub record IsIndex (i : ℕ) (rs : List Reason) (j : ℕ) : Type 0 where
    pub place : ℕ
    pub counted : j ≡ i + place
    pub reason : Reason
    pub there : slice_get rs place ≡ Some reason
    pub process : reason.listed.process ≡ p

  index-is : (i : ℕ) (rs : List Reason) (j : ℕ) → index_from i p rs ≡ Some j → IsIndex i rs j
  index-is i [] j e = absurd (none-some j e)
  index-is i (r ∷ rs) j e = by (nat_eq r.listed.process p) refl e (λ k. index-is (suc i) rs k)
    where
      by : (b : Bool) → nat_eq r.listed.process p ≡ b → (if b then Some i else index_from (suc i) p rs) ≡ Some j
          → ((k : ℕ) → index_from (suc i) p rs ≡ Some k → IsIndex (suc i) rs k) → IsIndex i (r ∷ rs) j
      by true t e further =
          record { place = 0; counted = sym (same_Some i j e) ∙ omega arith; reason = r; there = refl; process = eqb-true r.listed.process p t }
      by false t e further =
          let h = further j e in
          record { place = suc h.place; counted = h.counted ∙ omega arith; reason = h.reason; there = h.there; process = h.process }

abbrev pub Changed : List Reason → ℕ → ℕ → Type 0
Changed reasons i j =
    (r : Reason) × (c : Change) × (s : Reason) × (slice_get reasons i ≡ Some r) × (r.latest ≡ Some c) × (slice_get reasons j ≡ Some s) × (s.listed.process ≡ c.place.process)

pub next-changed : (reasons : List Reason) (i j : ℕ) → next_at (nexts_of reasons) i ≡ Some j → Changed reasons i j
next-changed reasons i j e =
    by (slice_get reasons i) refl (sym (ap option_flatten (slice_get-map (next_of reasons) reasons i)) ∙ e)
  where
    by_change : (r : Reason) (o : Option Change) → slice_get reasons i ≡ Some r → r.latest ≡ o → next_of_change reasons o ≡ Some j
        → Changed reasons i j
    by_change r None there latest f = absurd (none-some j f)
    by_change r (Some c) there latest f =
        let h = index-is c.place.process 0 reasons j f in
        let at : j ≡ h.place = h.counted ∙ omega arith in
        (r, c, h.reason, there, latest, ap (slice_get reasons) at ∙ h.there, h.process)

    by : (o : Option Reason) → slice_get reasons i ≡ o → option_flatten (option_map (next_of reasons) o) ≡ Some j → Changed reasons i j
    by None there f = absurd (none-some j f)
    by (Some r) there f = by_change r r.latest there refl f

pub next-at-reason : (reasons : List Reason) (i : ℕ) (r : Reason) → slice_get reasons i ≡ Some r
    → next_at (nexts_of reasons) i ≡ next_of reasons r
next-at-reason reasons i r there =
    ap option_flatten (slice_get-map (next_of reasons) reasons i)
    ∙ ap (λ (o : Option Reason). option_flatten (option_map (next_of reasons) o)) there
