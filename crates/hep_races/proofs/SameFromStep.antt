-- Two detectors that agree from a step on, of which the one knows of earlier accesses of process 1 too: they go on to the same rows where
-- each process knows of those steps.
use Rattle.std.proofs.Common.{◌≡◌, inl, inr, ◌⊎◌, ℕ, suc, ◌<◌, ◌≤◌, Bool, true, false, ◌&&◌, not, cond, if◌then◌else◌, max, nat_eq, nat_le}
use Rattle.std.proofs.Common.{List, [], ◌∷◌, Option, None, Some, refl, sym, ap, ◌∙◌, subst, arith}
use Rattle.std.proofs.lemmas.Bool.{cases_lt, false≢true, le-leb, lt-leb, leb-false, leb-true}
use Rattle.std.specs.List.{AllByRecursion, filter}
use Rattle.hep_accesses.specs.Clocks.{Clock, Clocks, clock_before, clock_of_need, clocks_after, joined, ticked}
use Rattle.hep_accesses.specs.Detector.{Detector, Table, detector_after, detector_after_accesses, is_racing_by_clock, is_repeated}
use Rattle.hep_accesses.specs.Detector.{racing_by_clock, with_access}
use Rattle.hep_accesses.specs.Events.{Access, Event, leads_to}
use Rattle.hep_accesses.specs.Firsts.{first_of_each}
use Rattle.hep_accesses.specs.Races.{StepAccess, conflicts, from_same_site, with_pairs}
use Rattle.hep_accesses.proofs.Elements.{all-filtered}
use Rattle.hep_accesses.proofs.Firsts.{filter-dropped, filter-swap}

-- ---- numbers of steps

-- a later step is known to both of two clocks that agree from step n on, or to none
same-known : (n m a b : ℕ) → n < m → max n a ≡ max n b → nat_le m a ≡ nat_le m b
same-known n m a b later h = by (cases_lt a m)
  where
    by : (a < m) ⊎ (m ≤ a) → nat_le m a ≡ nat_le m b
    by (inl below) = lt-leb m a below ∙ sym (lt-leb m b (omega (arith, later, h, below)))
    by (inr above) = le-leb m a above ∙ sym (le-leb m b (omega (arith, later, h, above)))

-- the larger of two numbers from n on
max-both : (n a b : ℕ) → max n (max a b) ≡ max (max n a) (max n b)
max-both n a b = omega arith

-- so clocks that agree from step n on agree after a join
same-joined : (n a b c d : ℕ) → max n a ≡ max n c → max n b ≡ max n d → max n (max a b) ≡ max n (max c d)
same-joined n a b c d h k = max-both n a b ∙ (λ i. max (h i) (k i)) ∙ sym (max-both n c d)

-- ---- clocks

-- of two clocks the same steps are known from step n on
abbrev pub AgreeOn : ℕ → Clock → Clock → Type 0
AgreeOn n a b = (p : ℕ) → max n (a p) ≡ max n (b p)

-- a process knows of all steps of process 1 before step n
abbrev pub KnowsStart : {L : Type 0} → ℕ → Clocks L → ℕ → Type 0
KnowsStart n x p = n ≤ x.of_process p 1

pub record AgreeFrom {L : Type 0} (n : ℕ) (x y : Clocks L) : Type 0 where
  pub process : (p : ℕ) → AgreeOn n (x.of_process p) (y.of_process p)
  pub unit : (at : L) → AgreeOn n (x.of_location at) (y.of_location at)

-- what a need knows
need-agree : {L : Type 0} (n : ℕ) (x y : Clocks L) → AgreeFrom n x y → (o : Option L) → AgreeOn n (clock_of_need x o) (clock_of_need y o)
need-agree n x y h None p = refl
need-agree n x y h (Some at) p = h.unit at p

module _ {L S : Type 0} (n : ℕ) where
  before-agree : (x y : Clocks L) → AgreeFrom n x y → (e : Event L S) → AgreeOn n (clock_before x e) (clock_before y e)
  before-agree x y h e p =
      same-joined n (x.of_process e.process p) (clock_of_need x e.needs p) (y.of_process e.process p) (clock_of_need y e.needs p)
      (h.process e.process p) (need-agree n x y h e.needs p)

  ticked-agree : (m : ℕ) (x y : Clocks L) → AgreeFrom n x y → (e : Event L S)
      → AgreeOn n (ticked m e.process (clock_before x e)) (ticked m e.process (clock_before y e))
  ticked-agree m x y h e p = by (nat_eq e.process p)
    where
      by : (b : Bool) → max n (if b then suc m else clock_before x e p) ≡ max n (if b then suc m else clock_before y e p)
      by true = refl
      by false = before-agree x y h e p

  -- so they do after a step
  clocks-agree : (m : ℕ) (x y : Clocks L) → AgreeFrom n x y → (e : Event L S) → AgreeFrom n (clocks_after m x e) (clocks_after m y e)
  clocks-agree m x y h e = record { process = λ q p. at_process q p (leads_to e q); unit = λ at p. at_unit at p (e.changes at) }
    where
      clock : Clocks L → Clock
      clock z = ticked m e.process (clock_before z e)

      at_process : (q p : ℕ) (b : Bool) → max n ((if b then joined (clock x) (x.of_process q) else x.of_process q) p)
          ≡ max n ((if b then joined (clock y) (y.of_process q) else y.of_process q) p)
      at_process q p true =
          same-joined n (clock x p) (x.of_process q p) (clock y p) (y.of_process q p) (ticked-agree m x y h e p) (h.process q p)
      at_process q p false = h.process q p

      at_unit : (at : L) (p : ℕ) (b : Bool) → max n ((if b then clock x else x.of_location at) p)
          ≡ max n ((if b then clock y else y.of_location at) p)
      at_unit at p true = ticked-agree m x y h e p
      at_unit at p false = h.unit at p

  -- ---- who knows of the steps before step n

  start-before : (x : Clocks L) (e : Event L S) → KnowsStart n x e.process → n ≤ clock_before x e 1
  start-before x e h = omega (arith, h)

  start-ticked : (m : ℕ) (x : Clocks L) (e : Event L S) → n ≤ m → KnowsStart n x e.process → n ≤ ticked m e.process (clock_before x e) 1
  start-ticked m x e late h = by (nat_eq e.process 1)
    where
      by : (b : Bool) → n ≤ (if b then suc m else clock_before x e 1)
      by true = omega (arith, late)
      by false = start-before x e h

  -- the process of a step and the one that it makes know of them, and those that knew of them still do
  pub start-known : (m : ℕ) (x : Clocks L) (e : Event L S) → n ≤ m → KnowsStart n x e.process → (q : ℕ)
      → KnowsStart n x q ⊎ (leads_to e q ≡ true) → KnowsStart n (clocks_after m x e) q
  start-known m x e late h q k = by (leads_to e q) refl k
    where
      by : (b : Bool) → leads_to e q ≡ b → KnowsStart n x q ⊎ (leads_to e q ≡ true)
          → n ≤ (if b then joined (ticked m e.process (clock_before x e)) (x.of_process q) else x.of_process q) 1
      by true is k = omega (arith, start-ticked m x e late h)
      by false is (inl known) = known
      by false is (inr led) = absurd (false≢true (sym is ∙ led))

  -- ---- accesses

  module _ (same : L → L → Bool) (alike : S → S → Bool) where
    -- no access of a step before step n
    abbrev pub is_later : StepAccess L S → Bool
    is_later d = nat_le n d.step

    -- the one table has the later accesses of the other, whose earlier ones are of process 1
    abbrev IsOfStart : StepAccess L S → Type 0
    IsOfStart d = d.step < n → d.process ≡ 1

    pub record IsLaterPart (t u : Table L S) : Type 0 where
      pub later : (at : L) → filter is_later (t at) ≡ u at
      pub start : (at : L) → AllByRecursion IsOfStart (t at)

    module _ (a b : Clock) (agree : AgreeOn n a b) (known : n ≤ a 1) (y : StepAccess L S) where
      -- a later access races with y by both clocks, or by none
      later-racing : (d : StepAccess L S) → is_later d ≡ true → is_racing_by_clock same alike a y d ≡ is_racing_by_clock same alike b y d
      later-racing d e =
          let late = leb-true n d.step e in
          ap (λ k. not (nat_eq d.process y.process) && (conflicts same d.access y.access && not k)) (
          same-known n (suc d.step) (a d.process) (b d.process) (omega (arith, late)) (agree d.process))

      -- an earlier one doesn't
      start-not-racing : (d : StepAccess L S) → IsOfStart d → is_later d ≡ false → is_racing_by_clock same alike a y d ≡ false
      start-not-racing d h e =
          let early : d.step < n = leb-false n d.step e in
          let is : d.process ≡ 1 = h early in
          let knows : suc d.step ≤ a d.process = subst (λ p. suc d.step ≤ a p) (sym is) (omega (arith, early, known)) in
          ap (λ k. not (nat_eq d.process y.process) && (conflicts same d.access y.access && not k)) (
          le-leb (suc d.step) (a d.process) knows)
          ∙ none (not (nat_eq d.process y.process)) (conflicts same d.access y.access)
        where
          none : (j k : Bool) → (j && (k && false)) ≡ false
          none true true = refl
          none true false = refl
          none false k = refl

      -- so the same accesses race with y
      same-racing : (ds : List (StepAccess L S)) → AllByRecursion IsOfStart ds
          → filter (is_racing_by_clock same alike a y) ds ≡ filter (is_racing_by_clock same alike b y) (filter is_later ds)
      same-racing [] h = refl
      same-racing (d ∷ ds) h = by (same-racing ds h.1) (is_later d) refl
        where
          racing : Clock → StepAccess L S → Bool
          racing c = is_racing_by_clock same alike c y

          by : filter (racing a) ds ≡ filter (racing b) (filter is_later ds) → (k : Bool) → is_later d ≡ k
              → cond (racing a d) (d ∷ filter (racing a) ds) (filter (racing a) ds)
              ≡ filter (racing b) (cond k (d ∷ filter is_later ds) (filter is_later ds))
          by rest true e = λ i. cond (later-racing d e i) (d ∷ rest i) (rest i)
          by rest false e = filter-dropped (racing a) d ds (start-not-racing d h.0 e) ∙ rest

    -- with one access more
    access-later : (t u : Table L S) → IsLaterPart t u → (y : StepAccess L S) → n ≤ y.step
        → IsLaterPart (with_access same alike y t) (with_access same alike y u)
    access-later t u h y late =
        record { later = λ at. by at (same y.access.at at); start = λ at. started at (same y.access.at at) }
      where
        other : StepAccess L S → Bool
        other d = not (is_repeated same alike y d)

        is : is_later y ≡ true
        is = le-leb n y.step late

        by : (at : L) (b : Bool) → filter is_later (if b then y ∷ filter other (t at) else t at)
            ≡ (if b then y ∷ filter other (u at) else u at)
        by at true =
            ap (λ k. cond k (y ∷ filter is_later (filter other (t at))) (filter is_later (filter other (t at)))) is
            ∙ ap (λ ds. y ∷ ds) (filter-swap is_later other (t at) ∙ ap (filter other) (h.later at))
        by at false = h.later at

        started : (at : L) (b : Bool) → AllByRecursion IsOfStart (if b then y ∷ filter other (t at) else t at)
        started at true = (λ early. absurd (omega (arith, early, late)), all-filtered IsOfStart other (t at) (h.start at))
        started at false = h.start at

    -- ---- detectors

    -- the one knows of earlier accesses of process 1 too
    pub record AgreesFrom (x y : Detector L S) : Type 0 where
      pub clocks : AgreeFrom n x.clocks y.clocks
      pub table : IsLaterPart x.table y.table
      pub rows : x.rows ≡ y.rows

    accesses-agree : (a b : Clock) → AgreeOn n a b → n ≤ a 1 → (m p : ℕ) → n ≤ m → (fs : List (Access L S)) (x y : Detector L S)
        → AgreesFrom x y
        → AgreesFrom (detector_after_accesses same alike a m p fs x) (detector_after_accesses same alike b m p fs y)
    accesses-agree a b agree known m p late [] x y h = h
    accesses-agree a b agree known m p late (f ∷ fs) x y h =
        let z : StepAccess L S = record { step = m; process = p; access = f } in
        let racing : racing_by_clock same alike a z (x.table f.at) ≡ racing_by_clock same alike b z (y.table f.at) =
        ap (first_of_each (from_same_site alike)) (
        same-racing a b agree known z (x.table f.at) (h.table.start f.at)
        ∙ ap (filter (is_racing_by_clock same alike b z)) (h.table.later f.at)) in
        accesses-agree a b agree known m p late fs _ _ (
        record {
          clocks = h.clocks;
          table = access-later x.table y.table h.table z late;
          rows = λ i. with_pairs alike z (racing i) (h.rows i);
        })

    -- a step later they still agree
    pub step-agrees : (m : ℕ) → n ≤ m → (x y : Detector L S) → AgreesFrom x y → (e : Event L S) → KnowsStart n x.clocks e.process
        → AgreesFrom (detector_after same alike m x e) (detector_after same alike m y e)
    step-agrees m late x y h e known =
        accesses-agree (clock_before x.clocks e) (clock_before y.clocks e) (before-agree x.clocks y.clocks h.clocks e)
        (start-before x.clocks e known) m e.process late e.accesses _ _ (
        record { clocks = clocks-agree m x.clocks y.clocks h.clocks e; table = h.table; rows = h.rows })
