-- What a detector has observed, with one step more.
use Rattle.std.proofs.Common.{◌≡◌, ℕ, ◌+◌, ◌<◌, ◌≤◌, false, if◌then◌else◌, nat_eq, List, [], ◌∷◌}
use Rattle.std.proofs.Common.{◌++◌, drop, get_or, length, map, refl, sym, ap, ◌∙◌, subst, arith}
use Rattle.std.proofs.Math.Path.{fun_ext}
use Rattle.std.proofs.lemmas.List.{drop_more}
use Rattle.std.specs.List.{AllByRecursion}
use Rattle.hep_accesses.specs.Clocks.{Clock, Clocks as AllClocks, clock_before, clocks_after, joined, ticked, zero_clocks}
use Rattle.hep_accesses.specs.Detector.{Detector as ADetector, detector_after, detector_after_accesses, racing_by_clock, with_access}
use Rattle.hep_accesses.proofs.Elements.{all-mapped}
use Rattle.hep_accesses.specs.Events.{Event, is_made}
use Rattle.hep_accesses.specs.Races.{StepAccess as AStepAccess, with_pairs}
use Rattle.hep_races.specs.declared.detector.Detector.{Detector}
use Rattle.hep_races.specs.declared.event.Access.{Access}
use Rattle.hep_races.specs.declared.storage_unit.StorageUnit.{StorageUnit}
use Rattle.hep_races.specs.declared.table.RaceTable.{RaceTable}
use Rattle.hep_races.specs.Detectors.{IsDetectorOf, NumberedEvents, detector_along, empty_detector}
use Rattle.hep_races.specs.Observed.{access_in, row_in, step_access_in, unit_eq}
use Rattle.hep_races.specs.Tables.{accesses_at, detector_with}
use Rattle.hep_races.specs.Vectors.{clocks_in}
use Rattle.hep_races.proofs.ClocksAfter.{AreWithin, clocks-kept, clocks-put, within-later}

-- an access of a step
abbrev made : ℕ → ℕ → List Access → ℕ → Access → AStepAccess StorageUnit ℕ
made n p accesses i default = step_access_in (record { step = n; process = p; access = get_or accesses i default })

-- one access more of a step
pub accesses-next : (c : Clock) (n p : ℕ) (accesses : List Access) (i : ℕ) (default : Access) (x : AllClocks StorageUnit) (t u : RaceTable)
    → i < length accesses
    → map row_in u.rows
    ≡ with_pairs nat_eq (made n p accesses i default)
    (racing_by_clock unit_eq nat_eq c (made n p accesses i default)
    (accesses_at t.latest (get_or accesses i default).at)) (map row_in t.rows)
    → ((at : StorageUnit) → accesses_at u.latest at
    ≡ with_access unit_eq nat_eq (made n p accesses i default) (accesses_at t.latest) at)
    → detector_after_accesses unit_eq nat_eq c n p (map access_in (drop i accesses)) (detector_with x t)
    ≡ detector_after_accesses unit_eq nat_eq c n p (map access_in (drop (i + 1) accesses)) (detector_with x u)
accesses-next c n p accesses i default x t u within rows latest =
    let latest_is : accesses_at u.latest
    ≡ with_access unit_eq nat_eq (made n p accesses i default) (accesses_at t.latest) =
    fun_ext latest in
    ap (λ ds. detector_after_accesses unit_eq nat_eq c n p (map access_in ds) (detector_with x t)) (drop_more accesses i default within)
    ∙ sym (λ k.
    detector_after_accesses unit_eq nat_eq c n p (map access_in (drop (i + 1) accesses)) (
    record { clocks = x; table = latest_is k; rows = rows k }))

-- where nothing is kept, nothing is observed
pub observed-none : (d : Detector) → d.steps ≡ 0 → ((p q : ℕ) → (clocks_in d.clocks).of_process p q ≡ 0)
    → ((at : StorageUnit) (q : ℕ) → (clocks_in d.clocks).of_location at q ≡ 0)
    → ((at : StorageUnit) → accesses_at d.table.latest at ≡ []) → d.table.rows ≡ [] → IsDetectorOf 0 [] d
unfolding detector_along
observed-none d steps process unit latest rows =
    let none : AllClocks StorageUnit = zero_clocks in
    let process_is : (clocks_in d.clocks).of_process ≡ none.of_process = fun_ext (λ p. fun_ext (λ q. process p q)) in
    let unit_is : (clocks_in d.clocks).of_location ≡ none.of_location = fun_ext (λ at. fun_ext (λ q. unit at q)) in
    let latest_is : accesses_at d.table.latest ≡ (λ (at : StorageUnit). []) = fun_ext latest in
    record {
      steps = steps;
      same = λ i. record {
        clocks = record { of_process = process_is i; of_location = unit_is i };
        table = latest_is i;
        rows = map row_in (rows i);
      };
      earlier = tt;
    }

-- ---- steps with their numbers

-- the step is before step n
abbrev IsBelow : ℕ → ℕ × Event StorageUnit ℕ → Type 0
IsBelow n e = e.0 < n

-- they are before a later one too
below-more : (n m : ℕ) → n ≤ m → (es : NumberedEvents) → AllByRecursion (IsBelow n) es → AllByRecursion (IsBelow m) es
below-more n m more es h = all-mapped (IsBelow n) (IsBelow m) (λ e k. omega (arith, k, more)) es h

-- and one more is
below-last : (n : ℕ) (es : NumberedEvents) (e : ℕ × Event StorageUnit ℕ) → AllByRecursion (IsBelow n) es → IsBelow n e
    → AllByRecursion (IsBelow n) (es ++ e ∷ [])
below-last n [] e h k = (k, tt)
below-last n (f ∷ es) e h k = (h.0, below-last n es e h.1 k)

-- steps that are passed over
pub observed-passed : (n count : ℕ) (es : NumberedEvents) (d new : Detector) → IsDetectorOf n es d → new.steps ≡ d.steps + count
    → new.clocks ≡ d.clocks → new.table ≡ d.table → IsDetectorOf (n + count) es new
observed-passed n count es d new h steps clocks table =
    record {
      steps = omega (arith, steps, h.steps);
      same = (λ i. detector_with (clocks_in (clocks i)) (table i)) ∙ h.same;
      earlier = below-more n (n + count) (omega arith) es h.earlier;
    }

-- no clock knows a step that is still to come
along-within : (n : ℕ) (x : ADetector StorageUnit ℕ) (es : NumberedEvents) → AllByRecursion (IsBelow n) es → AreWithin n x.clocks
    → AreWithin n (detector_along unit_eq nat_eq x es).clocks
unfolding detector_along
along-within n x [] below h = h
along-within n x (e ∷ es) below h =
    along-within n (detector_after unit_eq nat_eq e.0 x e.1) es below.1 (
    subst (AreWithin n) (
    sym (
    clocks-kept unit_eq nat_eq (clock_before x.clocks e.1) e.0 e.1.process e.1.accesses (
    record { clocks = clocks_after e.0 x.clocks e.1; table = x.table; rows = x.rows }))) (within-later n e.0 x.clocks e.1 below.0 h))

-- so it is of a detector
within-of : (n : ℕ) (es : NumberedEvents) (d : Detector) → IsDetectorOf n es d → AreWithin n (clocks_in d.clocks)
within-of n es d h =
    subst (AreWithin n) (sym (ap (λ x. x.clocks) h.same)) (
    along-within n empty_detector es h.earlier (
    record { process = λ p q. omega arith; unit = λ at q. omega arith }))

-- one step more
along-more : (x : ADetector StorageUnit ℕ) (es : NumberedEvents) (n : ℕ) (e : Event StorageUnit ℕ)
    → detector_along unit_eq nat_eq x (es ++ (n, e) ∷ []) ≡ detector_after unit_eq nat_eq n (detector_along unit_eq nat_eq x es) e
unfolding detector_along
along-more x [] n e = refl
along-more x (d ∷ es) n e = along-more (detector_after unit_eq nat_eq d.0 x d.1) es n e

module _ (n : ℕ) (es : NumberedEvents) (e : Event StorageUnit ℕ) (d new : Detector) (h : IsDetectorOf n es d)
    (before after : Clock)
    (middle : AllClocks StorageUnit) where
  -- the clocks, the accesses and the number of steps after a step make the detector
  pub observed-more : new.steps ≡ d.steps + 1 → ((q : ℕ) → before q ≡ clock_before (clocks_in d.clocks) e q)
      → ((p q : ℕ) → nat_eq e.process p ≡ false → middle.of_process p q ≡ (clocks_in d.clocks).of_process p q)
      → ((at : StorageUnit) (q : ℕ) → middle.of_location at q ≡ (clocks_in d.clocks).of_location at q)
      → ((x : AllClocks StorageUnit) → detector_with x new.table
      ≡ detector_after_accesses unit_eq nat_eq before d.steps e.process e.accesses (detector_with x d.table))
      → ((q : ℕ) → after q ≡ ticked d.steps e.process before q)
      → ((p q : ℕ) → (clocks_in new.clocks).of_process p q
      ≡ (if nat_eq e.process p then after q
      else (if is_made e.makes p then joined after (middle.of_process p) q else middle.of_process p q)))
      → ((at : StorageUnit) (q : ℕ) → (clocks_in new.clocks).of_location at q ≡ (if e.changes at then after q else middle.of_location at q))
      → IsDetectorOf (n + 1) (es ++ (n, e) ∷ []) new
  observed-more counted taken others units accessed tick put left =
      let before_is : before ≡ clock_before (clocks_in d.clocks) e = fun_ext taken in
      let within : AreWithin d.steps (clocks_in d.clocks) =
      subst (λ k. AreWithin k (clocks_in d.clocks)) (sym h.steps) (within-of n es d h) in
      let clocks_are : clocks_in new.clocks ≡ clocks_after d.steps (clocks_in d.clocks) e =
      clocks-put d.steps (clocks_in d.clocks) middle (clocks_in new.clocks) e after within others units
      (λ q. tick q ∙ ap (λ (c : Clock). ticked d.steps e.process c q) before_is) put left in
      record {
        steps = omega (arith, counted, h.steps);
        same =
            accessed (clocks_in new.clocks)
            ∙ (λ i.
            detector_after_accesses unit_eq nat_eq (before_is i) d.steps e.process e.accesses (detector_with (clocks_are i) d.table))
            ∙ (λ i. detector_after unit_eq nat_eq (h.steps i) (h.same i) e)
            ∙ sym (along-more empty_detector es n e);
        earlier = below-last (n + 1) es (n, e) (below-more n (n + 1) (omega arith) es h.earlier) (omega arith);
      }
