-- Clocks tell of each step whether it is before another one.
use Rattle.std.proofs.Common.{◌≡◌, inl, inr, ◌⊎◌, ℕ, suc, ◌+◌, ◌<◌, ◌≤◌, max, Bool, true, false, ◌&&◌, ◌||◌, nat_eq, List, [], ◌∷◌, length}
use Rattle.std.proofs.Common.{take, Option, Some, None, refl, sym, ap, ◌∙◌, subst, arith, if◌then◌else◌, slice_get}
use Rattle.std.proofs.lemmas.Bool.{and_from, cases_lt, eqb-true, eqb-false, eq-eqb, or_cases, or_left, or_right}
use Rattle.std.proofs.lemmas.Option.{same_Some}
use Rattle.hep_accesses.specs.HappensBefore.{IsBefore}
use Rattle.hep_accesses.specs.Pasts.{Past, Steps, before_at, before_step, past_of_need, empty_past, past_after, past_from, with_step}
use Rattle.hep_accesses.specs.Clocks.{Clock, Clocks, clock_at, clock_before, clock_of_need, clocks_after, clocks_from, joined, zero_clock}
use Rattle.hep_accesses.specs.Clocks.{zero_clocks, ticked}
use Rattle.hep_accesses.specs.Events.{Event, is_made, leads_to}
use Rattle.hep_accesses.proofs.Pasts.{before-at-complete, before-at-sound}
use Rattle.hep_accesses.proofs.Elements.{length-of_take, slice_get-of_take}

module _ {L S : Type 0} (es : List (Event L S)) where
  -- of the first n steps the clock knows just these: its number for their process is theirs at least
  pub record IsClockOf (n : ℕ) (s : Steps) (c : Clock) : Type 0 where
    pub sound : (i : ℕ) (d : Event L S) → slice_get es i ≡ Some d → s i ≡ true → suc i ≤ c d.process
    pub complete : (i : ℕ) (d : Event L S) → slice_get es i ≡ Some d → suc i ≤ c d.process → s i ≡ true
    pub within : (p : ℕ) → c p ≤ n

  -- all clocks know the pasts, and each process its own steps
  pub record AreAlike (n : ℕ) (x : Past L) (c : Clocks L) : Type 0 where
    pub known : (p : ℕ) → IsClockOf n (x.of_process p) (c.of_process p)
    pub left : (at : L) → IsClockOf n (x.of_location at) (c.of_location at)
    -- a process knows its own steps
    pub own : (i : ℕ) (d : Event L S) → slice_get es i ≡ Some d → i < n → x.of_process d.process i ≡ true

  -- ---- clocks by themselves

  -- a clock of zeros knows no step
  empty-clock : (n : ℕ) → IsClockOf n (λ i. false) zero_clock
  empty-clock n =
      record { sound = λ i d is k. absurd (grind arith); complete = λ i d is k. absurd (omega arith); within = λ p. omega arith }

  -- the join of two clocks knows what either knows
  joined-clock : (n : ℕ) (s t : Steps) (a b : Clock) → IsClockOf n s a → IsClockOf n t b → IsClockOf n (λ i. s i || t i) (joined a b)
  joined-clock n s t a b g h =
      record {
        sound = λ i d is k. sound i d is (or_cases (s i) (t i) k);
        complete = λ i d is k. complete i d is (cases_lt (a d.process) (suc i)) k;
        within = λ p. omega (arith, g.within p, h.within p);
      }
    where
      sound : (i : ℕ) (d : Event L S) → slice_get es i ≡ Some d → (s i ≡ true) ⊎ (t i ≡ true) → suc i ≤ max (a d.process) (b d.process)
      sound i d is (inl k) = omega (arith, g.sound i d is k)
      sound i d is (inr k) = omega (arith, h.sound i d is k)

      complete : (i : ℕ) (d : Event L S) → slice_get es i ≡ Some d → (a d.process < suc i) ⊎ (suc i ≤ a d.process)
          → suc i ≤ max (a d.process) (b d.process) → (s i || t i) ≡ true
      complete i d is (inl above) k = or_right (s i) (t i) (h.complete i d is (omega arith))
      complete i d is (inr below) k = or_left (s i) (t i) (g.complete i d is below)

  -- a clock is one of more steps too
  more-clock : (n : ℕ) (s : Steps) (a : Clock) → IsClockOf n s a → IsClockOf (suc n) s a
  more-clock n s a g = record { sound = g.sound; complete = g.complete; within = λ p. omega (arith, g.within p) }

  module _ (n : ℕ) (e : Event L S) (f : slice_get es n ≡ Some e) (s : Steps) (a : Clock) (g : IsClockOf n s a)
      (own : (i : ℕ) (d : Event L S) → slice_get es i ≡ Some d → d.process ≡ e.process → i < n → s i ≡ true) where
    -- with step n, the clock knows whatever the past has
    ticked-sound : (i : ℕ) (d : Event L S) → slice_get es i ≡ Some d → (nat_eq i n ≡ true) ⊎ (s i ≡ true) → (b : Bool)
        → nat_eq e.process d.process ≡ b → suc i ≤ (if b then suc n else a d.process)
    ticked-sound i d is (inl k) true t = omega (arith, eqb-true i n k)
    ticked-sound i d is (inr k) true t = omega (arith, g.sound i d is k, g.within d.process)
    ticked-sound i d is (inl k) false t =
        let event_same : d ≡ e = same_Some d e (sym (subst (λ j. slice_get es j ≡ Some d) (eqb-true i n k) is) ∙ f) in
        absurd (eqb-false e.process d.process t (ap (λ (x : Event L S). x.process) (sym event_same)))
    ticked-sound i d is (inr k) false t = g.sound i d is k

    -- and the past has whatever the clock knows, since a process knows its own steps
    ticked-complete : (i : ℕ) (d : Event L S) → slice_get es i ≡ Some d → (b : Bool) → nat_eq e.process d.process ≡ b
        → suc i ≤ (if b then suc n else a d.process) → (i < n) ⊎ (n ≤ i) → (nat_eq i n || s i) ≡ true
    ticked-complete i d is true t k (inl below) = or_right (nat_eq i n) (s i) (own i d is (sym (eqb-true e.process d.process t)) below)
    ticked-complete i d is true t k (inr above) = or_left (nat_eq i n) (s i) (eq-eqb i n (omega arith))
    ticked-complete i d is false t k _ = or_right (nat_eq i n) (s i) (g.complete i d is k)

    -- no entry of the clock is above n + 1
    ticked-within : (p : ℕ) (b : Bool) → (if b then suc n else a p) ≤ suc n
    ticked-within p true = omega arith
    ticked-within p false = omega (arith, g.within p)

    -- a clock with step n knows that step, and what it knew
    ticked-clock : IsClockOf (suc n) (with_step n s) (ticked n e.process a)
    ticked-clock =
        record {
          sound = λ i d is k. ticked-sound i d is (or_cases (nat_eq i n) (s i) k) (nat_eq e.process d.process) refl;
          complete = λ i d is k. ticked-complete i d is (nat_eq e.process d.process) refl k (cases_lt i n);
          within = λ p. ticked-within p (nat_eq e.process p);
        }

  -- ---- one step

  module _ (n : ℕ) (x : Past L) (c : Clocks L) (h : AreAlike n x c) (e : Event L S) (f : slice_get es n ≡ Some e) where
    -- the clock of what a step needs knows the past of that
    left-clock : (o : Option L) → IsClockOf n (past_of_need x o) (clock_of_need c o)
    left-clock None = empty-clock n
    left-clock (Some at) = h.left at

    -- the clock before a step knows the steps before it
    pub before-clock : IsClockOf n (before_step x e) (clock_before c e)
    before-clock =
        joined-clock n (x.of_process e.process) (past_of_need x e.needs) (c.of_process e.process) (clock_of_need c e.needs)
        (h.known e.process) (left-clock e.needs)

    -- the earlier steps of its process are before a step
    own-before : (i : ℕ) (d : Event L S) → slice_get es i ≡ Some d → d.process ≡ e.process → i < n → before_step x e i ≡ true
    own-before i d is same below =
        or_left (x.of_process e.process i) (past_of_need x e.needs i) (subst (λ p. x.of_process p i ≡ true) same (h.own i d is below))

    -- the clock of a step knows it, and the steps before it
    made-clock : IsClockOf (suc n) (with_step n (before_step x e)) (ticked n e.process (clock_before c e))
    made-clock = ticked-clock n e f (before_step x e) (clock_before c e) before-clock own-before

    -- the clock of a process after a step, whether the step leads to it or not
    known-clock : (p : ℕ) (b : Bool)
        → IsClockOf (suc n) (λ i. (b && with_step n (before_step x e) i) || x.of_process p i)
        (if b then joined (ticked n e.process (clock_before c e)) (c.of_process p) else c.of_process p)
    known-clock p true =
        joined-clock (suc n) (with_step n (before_step x e)) (x.of_process p) (ticked n e.process (clock_before c e))
        (c.of_process p) made-clock (
        more-clock n (x.of_process p) (c.of_process p) (h.known p))
    known-clock p false = more-clock n (x.of_process p) (c.of_process p) (h.known p)

    -- the clock of a full/empty storage unit after a step, whether the step changes it or not
    left-after-clock : (at : L) (b : Bool)
        → IsClockOf (suc n) (λ i. if b then with_step n (before_step x e) i else x.of_location at i)
        (if b then ticked n e.process (clock_before c e) else c.of_location at)
    left-after-clock at true = made-clock
    left-after-clock at false = more-clock n (x.of_location at) (c.of_location at) (h.left at)

    -- a step leads to its own process
    leads-itself : leads_to e e.process ≡ true
    leads-itself = or_left (nat_eq e.process e.process) (is_made e.makes e.process) (eq-eqb e.process e.process refl)

    -- after a step each process knows its own steps
    own-after : (i : ℕ) (d : Event L S) → slice_get es i ≡ Some d → (i < n) ⊎ (n ≤ i) → i < suc n
        → (past_after n x e).of_process d.process i ≡ true
    own-after i d is (inl below) k =
        or_right (leads_to e d.process && with_step n (before_step x e) i) (x.of_process d.process i) (h.own i d is below)
    own-after i d is (inr above) k =
        let same : i ≡ n = omega arith in
        let event_same : d ≡ e = same_Some d e (sym (subst (λ j. slice_get es j ≡ Some d) same is) ∙ f) in
        or_left (leads_to e d.process && with_step n (before_step x e) i) (x.of_process d.process i) (
        and_from (leads_to e d.process) (with_step n (before_step x e) i)
        (subst (λ (g : Event L S). leads_to e g.process ≡ true) (sym event_same) leads-itself) (
        or_left (nat_eq i n) (before_step x e i) (eq-eqb i n same)))

    -- pasts and clocks agree after a step more
    pub alike-more : AreAlike (suc n) (past_after n x e) (clocks_after n c e)
    alike-more =
        record {
          known = λ p. known-clock p (leads_to e p);
          left = λ at. left-after-clock at (e.changes at);
          own = λ i d is k. own-after i d is (cases_lt i n) k;
        }

  -- ---- a run

  -- they agree before the first step
  pub alike-nothing : AreAlike 0 empty_past zero_clocks
  alike-nothing = record { known = λ p. empty-clock 0; left = λ at. empty-clock 0; own = λ i d is k. absurd (omega arith) }

  -- they agree after several steps
  pub alike-along : (n : ℕ) (x : Past L) (c : Clocks L) (ds : List (Event L S))
      → ((m : ℕ) (d : Event L S) → slice_get ds m ≡ Some d → slice_get es (n + m) ≡ Some d) → AreAlike n x c
      → AreAlike (n + length ds) (past_from n x ds) (clocks_from n c ds)
  unfolding past_from clocks_from
  alike-along n x c [] own h = subst (λ k. AreAlike k x c) (omega arith) h
  alike-along n x c (d ∷ ds) own h =
      let there : slice_get es n ≡ Some d = subst (λ k. slice_get es k ≡ Some d) (omega arith) (own 0 d refl) in
      subst (λ k. AreAlike k (past_from (suc n) (past_after n x d) ds) (clocks_from (suc n) (clocks_after n c d) ds)) (omega arith) (
      alike-along (suc n) (past_after n x d) (clocks_after n c d) ds
      (λ m g is. subst (λ k. slice_get es k ≡ Some g) (omega arith) (own (suc m) g is)) (
      alike-more n x c h d there))

  -- they agree before each step of a run
  pub alike-at : (k : ℕ) (e : Event L S) → slice_get es k ≡ Some e
      → AreAlike k (past_from 0 empty_past (take k es)) (clocks_from 0 zero_clocks (take k es))
  alike-at k e f =
      subst (λ m. AreAlike m (past_from 0 empty_past (take k es)) (clocks_from 0 zero_clocks (take k es)))
      (omega (arith, length-of_take es k e f)) (
      alike-along 0 empty_past zero_clocks (take k es)
      (λ m d is. subst (λ j. slice_get es j ≡ Some d) (omega arith) (slice_get-of_take es k m d is)) alike-nothing)

  -- the clock before step k knows the steps before it
  pub clock-of : (k : ℕ) (e : Event L S) → slice_get es k ≡ Some e → IsClockOf k (before_at es k e) (clock_at es k e)
  clock-of k e f = before-clock k (past_from 0 empty_past (take k es)) (clocks_from 0 zero_clocks (take k es)) (alike-at k e f) e f

  -- a step that the clock knows is before
  pub clock-sound : (i k : ℕ) (d e : Event L S) → slice_get es i ≡ Some d → slice_get es k ≡ Some e → suc i ≤ clock_at es k e d.process
      → IsBefore es i k
  clock-sound i k d e g f below = before-at-sound es i k e f ((clock-of k e f).complete i d g below)

  -- the clock knows each step that is before
  pub clock-complete : (i k : ℕ) (d e : Event L S) → slice_get es i ≡ Some d → slice_get es k ≡ Some e → IsBefore es i k
      → suc i ≤ clock_at es k e d.process
  clock-complete i k d e g f b = (clock-of k e f).sound i d g (before-at-complete es i k e f b)
