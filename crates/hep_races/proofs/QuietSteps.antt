-- Steps that need, change, make and access nothing can be passed over: the rows are the same.
use Rattle.std.proofs.Common.{◌≡◌, ℕ, suc, Bool, true, false, ◌&&◌, ◌||◌, not, if◌then◌else◌, max, nat_eq, nat_le, List, [], ◌∷◌, None}
use Rattle.std.proofs.Common.{Option, Some, refl, ap, ◌∙◌, arith}
use Rattle.std.proofs.Math.Path.{fun_ext}
use Rattle.std.proofs.lemmas.Bool.{eqb-true}
use Rattle.std.specs.List.{filter}
use Rattle.hep_accesses.specs.Clocks.{Clock, Clocks, clock_before, clock_of_need, clocks_after, joined, ticked}
use Rattle.hep_accesses.specs.Detector.{Detector, detector_after, detector_after_accesses, is_racing_by_clock, with_access}
use Rattle.hep_accesses.specs.Events.{Access, Event, leads_to}
use Rattle.hep_accesses.specs.Firsts.{first_of_each}
use Rattle.hep_accesses.specs.Races.{StepAccess, conflicts, from_same_site, with_pairs}
use Rattle.hep_source.proofs.Tests.{numbers-turned}

-- a step of process p that needs, changes, makes and accesses nothing
abbrev pub quiet_event : {L S : Type 0} → ℕ → Event L S
quiet_event p = record { process = p; makes = None; needs = None; changes = λ at. false; accesses = [] }

-- the same clocks, but for what processes know of their own steps
pub record AreAlike {L : Type 0} (x y : Clocks L) : Type 0 where
  pub process : (p q : ℕ) → nat_eq p q ≡ false → x.of_process p q ≡ y.of_process p q
  pub unit : (at : L) (q : ℕ) → x.of_location at q ≡ y.of_location at q

-- what a need knows is the same
need-alike : {L : Type 0} (x y : Clocks L) → AreAlike x y → (o : Option L) (q : ℕ) → clock_of_need x o q ≡ clock_of_need y o q
need-alike x y h None q = refl
need-alike x y h (Some at) q = h.unit at q

-- a quiet step tells its process of itself alone
clocks-quiet : {L : Type 0} (S : Type 0) (n : ℕ) (x y : Clocks L) → AreAlike x y → (p : ℕ)
    → AreAlike (clocks_after n x (quiet_event {L = L} {S = S} p)) y
clocks-quiet {L} S n x y h p = record { process = λ q r other. by q r other (nat_eq p q) refl; unit = h.unit }
  where
    e : Event L S
    e = quiet_event p

    zero-right : (a : ℕ) → max a 0 ≡ a
    zero-right a = omega arith

    own-twice : (a : ℕ) → max a a ≡ a
    own-twice a = omega arith

    ticks : (r : ℕ) → nat_eq p r ≡ false → ticked n p (clock_before x e) r ≡ x.of_process p r
    ticks r other = ap (λ b. if b then suc n else clock_before x e r) other ∙ zero-right (x.of_process p r)

    by : (q r : ℕ) → nat_eq q r ≡ false → (b : Bool) → nat_eq p q ≡ b
        → (if b || false then joined (ticked n p (clock_before x e)) (x.of_process q) else x.of_process q) r ≡ y.of_process q r
    by q r other false t = h.process q r other
    by q r other true t =
        let same : p ≡ q = eqb-true p q t in
        let own : nat_eq p r ≡ false = ap (λ s. nat_eq s r) same ∙ other in
        ap (λ k. max k (x.of_process q r)) (ticks r own ∙ ap (λ s. x.of_process s r) same)
        ∙ own-twice (x.of_process q r) ∙ h.process q r other

module _ {L S : Type 0} where
  before-alike : (x y : Clocks L) → AreAlike x y → (e : Event L S) (q : ℕ) → nat_eq e.process q ≡ false
      → clock_before x e q ≡ clock_before y e q
  before-alike x y h e q other = λ i. max (h.process e.process q other i) (need-alike x y h e.needs q i)

  -- the clock of a step is the same
  ticked-alike : (n : ℕ) (x y : Clocks L) → AreAlike x y → (e : Event L S) (q : ℕ)
      → ticked n e.process (clock_before x e) q ≡ ticked n e.process (clock_before y e) q
  ticked-alike n x y h e q = by (nat_eq e.process q) refl
    where
      by : (b : Bool) → nat_eq e.process q ≡ b → (if b then suc n else clock_before x e q) ≡ (if b then suc n else clock_before y e q)
      by true t = refl
      by false t = before-alike x y h e q t

  -- after a step they are alike
  clocks-alike : (n : ℕ) (x y : Clocks L) → AreAlike x y → (e : Event L S) → AreAlike (clocks_after n x e) (clocks_after n y e)
  clocks-alike n x y h e =
      record { process = λ p q other. at_process p q other (leads_to e p); unit = λ at q. at_unit at q (e.changes at) }
    where
      clock : Clocks L → Clock
      clock z = ticked n e.process (clock_before z e)

      at_process : (p q : ℕ) → nat_eq p q ≡ false → (b : Bool)
          → (if b then joined (clock x) (x.of_process p) else x.of_process p) q
          ≡ (if b then joined (clock y) (y.of_process p) else y.of_process p) q
      at_process p q other true = λ i. max (ticked-alike n x y h e q i) (h.process p q other i)
      at_process p q other false = h.process p q other

      at_unit : (at : L) (q : ℕ) (b : Bool) → (if b then clock x else x.of_location at) q ≡ (if b then clock y else y.of_location at) q
      at_unit at q true = ticked-alike n x y h e q
      at_unit at q false = h.unit at q

  -- ---- detectors

  -- they differ in what processes know of their own steps alone
  pub record AreAlikeDetectors (x y : Detector L S) : Type 0 where
    pub clocks : AreAlike x.clocks y.clocks
    pub table : x.table ≡ y.table
    pub rows : x.rows ≡ y.rows

  module _ (same : L → L → Bool) (alike : S → S → Bool) where
    -- an access races with the same earlier ones of other processes
    racing-alike : (a b : Clock) (z : StepAccess L S) → ((q : ℕ) → nat_eq z.process q ≡ false → a q ≡ b q) → (d : StepAccess L S)
        → is_racing_by_clock same alike a z d ≡ is_racing_by_clock same alike b z d
    racing-alike a b z agree d = by (nat_eq d.process z.process) refl
      where
        other : nat_eq d.process z.process ≡ false → nat_eq z.process d.process ≡ false
        other e = numbers-turned z.process d.process ∙ e

        by : (k : Bool) → nat_eq d.process z.process ≡ k
            → (not k && (conflicts same d.access z.access && not (nat_le (suc d.step) (a d.process))))
            ≡ (not k && (conflicts same d.access z.access && not (nat_le (suc d.step) (b d.process))))
        by true t = refl
        by false t = ap (λ c. conflicts same d.access z.access && not (nat_le (suc d.step) c)) (agree d.process (other t))

    accesses-alike : (a b : Clock) (n p : ℕ) → ((q : ℕ) → nat_eq p q ≡ false → a q ≡ b q) → (fs : List (Access L S)) (x y : Detector L S)
        → AreAlikeDetectors x y
        → AreAlikeDetectors (detector_after_accesses same alike a n p fs x) (detector_after_accesses same alike b n p fs y)
    accesses-alike a b n p agree [] x y h = h
    accesses-alike a b n p agree (f ∷ fs) x y h =
        let z : StepAccess L S = record { step = n; process = p; access = f } in
        let races : is_racing_by_clock same alike a z ≡ is_racing_by_clock same alike b z = fun_ext (racing-alike a b z agree) in
        accesses-alike a b n p agree fs _ _ (
        record {
          clocks = h.clocks;
          table = λ i. with_access same alike z (h.table i);
          rows = λ i. with_pairs alike z (first_of_each (from_same_site alike) (filter (races i) (h.table i f.at))) (h.rows i);
        })

    -- after a step they still differ in that alone
    pub step-alike : (n : ℕ) (x y : Detector L S) → AreAlikeDetectors x y → (e : Event L S)
        → AreAlikeDetectors (detector_after same alike n x e) (detector_after same alike n y e)
    step-alike n x y h e =
        accesses-alike (clock_before x.clocks e) (clock_before y.clocks e) n e.process (before-alike x.clocks y.clocks h.clocks e)
        e.accesses _ _ (
        record { clocks = clocks-alike n x.clocks y.clocks h.clocks e; table = h.table; rows = h.rows })

    -- and where one of them passes over a quiet step
    pub quiet-alike : (n : ℕ) (x y : Detector L S) → AreAlikeDetectors x y → (p : ℕ)
        → AreAlikeDetectors (detector_after same alike n x (quiet_event p)) y
    quiet-alike n x y h p = record { clocks = clocks-quiet S n x.clocks y.clocks h.clocks p; table = h.table; rows = h.rows }
