-- The steps that a run makes while there is one process needn't be observed: its rows are those of the steps after them.
use Rattle.std.proofs.Common.{◌≡◌, ◌≢◌, inl, inr, ◌⊎◌, ℕ, zero, suc, ◌+◌, ◌<◌, ◌≤◌, Bool, true, false, ◌&&◌, ◌||◌, not, if◌then◌else◌, max}
use Rattle.std.proofs.Common.{nat_eq, nat_le, List, [], ◌∷◌, ◌++◌, append_assoc, append-nil, length, Option, None, Some, slice_get}
use Rattle.std.proofs.Common.{refl, sym, ap, ◌∙◌, subst, arith}
use Rattle.std.proofs.lemmas.Bool.{cases_lt, eq-eqb, false≢true, leb-false, leb-true, lt-leb, lt-ltb}
use Rattle.std.proofs.lemmas.Option.{none-some, slice_get_within}
use Rattle.std.specs.List.{AllByRecursion, filter}
use Rattle.hep_accesses.specs.Accesses.{Site, same_site}
use Rattle.hep_accesses.specs.Clocks.{Clock, Clocks, clock_before, clocks_after, joined, ticked, zero_clocks}
use Rattle.hep_accesses.specs.Detector.{Detector, detector_after, detector_after_accesses, detector_from, is_racing_by_clock}
use Rattle.hep_accesses.specs.Detector.{is_repeated, racing_by_clock, rows_by_clocks, rows_from}
use Rattle.hep_accesses.specs.Events.{Access, Event as AnEvent, is_made, leads_to}
use Rattle.hep_accesses.specs.Firsts.{first_of_each}
use Rattle.hep_accesses.specs.Races.{Row as ARow, StepAccess, conflicts, from_same_site, with_pairs}
use Rattle.hep_accesses.specs.RunEvents.{Event, event_of, event_of_top, events_from, events_of, process_made, with_event}
use Rattle.hep_accesses.proofs.Elements.{all-filtered, all-mapped}
use Rattle.hep_accesses.proofs.Firsts.{filter-dropped}
use Rattle.hep_fold.specs.Turns.{processes, seen_along}
use Rattle.hep_machine.specs.Words.{AreSteps, Level, Location, Process, State, Units, living, opening, same_location}
use Rattle.hep_machine.specs.Words.{state_after_turn, step, top_of}
use Rattle.hep_races.proofs.ClocksAfter.{AreWithin, clocks-kept, within-more}
use Rattle.hep_races.proofs.ObservedTurns.{first-step, had-top}
use Rattle.hep_races.proofs.SameFromStep.{AgreesFrom, KnowsStart, is_later, start-known, step-agrees}
use Rattle.hep_races.specs.ObservedRuns.{RunSteps, is_alone, with_step}

-- ---- steps of process 1 alone

module _ {L S : Type 0} (same : L → L → Bool) (alike : S → S → Bool) where
  -- an access of process 1 before step n
  abbrev pub IsStart : ℕ → StepAccess L S → Type 0
  IsStart n d = (d.step < n) × (d.process ≡ 1)

  -- so are all in the tables, and there are no rows
  pub record HasStart (n : ℕ) (x : Detector L S) : Type 0 where
    pub rows : x.rows ≡ []
    pub table : (at : L) → AllByRecursion (IsStart n) (x.table at)

  -- n steps of process 1 were observed, and no other ones
  pub record IsAtStart (n : ℕ) (x : Detector L S) : Type 0 where
    pub has : HasStart n x
    pub knows : KnowsStart n x.clocks 1
    pub within : AreWithin n x.clocks

  -- an access of process 1 races with none of process 1
  none-racing : (n : ℕ) (c : Clock) (y : StepAccess L S) → y.process ≡ 1 → (ds : List (StepAccess L S)) → AllByRecursion (IsStart n) ds
      → filter (is_racing_by_clock same alike c y) ds ≡ []
  none-racing n c y is [] h = refl
  none-racing n c y is (d ∷ ds) h =
      filter-dropped (is_racing_by_clock same alike c y) d ds (
      ap (λ b. not b && (conflicts same d.access y.access && not (nat_le (suc d.step) (c d.process)))) (
      eq-eqb d.process y.process (h.0.1 ∙ sym is)))
      ∙ none-racing n c y is ds h.1

  -- accesses of the next step
  accesses-start : (n m p : ℕ) (c : Clock) → p ≡ 1 → m < n → (fs : List (Access L S)) (x : Detector L S) → HasStart n x
      → HasStart n (detector_after_accesses same alike c m p fs x)
  accesses-start n m p c is early [] x h = h
  accesses-start n m p c is early (f ∷ fs) x h =
      accesses-start n m p c is early fs _ (
      record {
        rows = (λ i. with_pairs alike z (none i) x.rows) ∙ h.rows;
        table = λ at. by at (same f.at at);
      })
    where
      z : StepAccess L S
      z = record { step = m; process = p; access = f }

      none : racing_by_clock same alike c z (x.table f.at) ≡ []
      none = ap (first_of_each (from_same_site alike)) (none-racing n c z is (x.table f.at) (h.table f.at))

      by : (at : L) (b : Bool)
          → AllByRecursion (IsStart n) (if b then z ∷ filter (λ d. not (is_repeated same alike z d)) (x.table at) else x.table at)
      by at true = ((early, is), all-filtered (IsStart n) (λ d. not (is_repeated same alike z d)) (x.table at) (h.table at))
      by at false = h.table at

  -- one step more of process 1
  start-more : (n : ℕ) (x : Detector L S) → IsAtStart n x → (e : AnEvent L S) → e.process ≡ 1
      → IsAtStart (suc n) (detector_after same alike n x e)
  start-more n x h e is =
      record {
        has = accesses-start (suc n) n e.process (clock_before x.clocks e) is (omega arith) e.accesses _ (
            record {
              rows = h.has.rows;
              table = λ at. all-mapped (IsStart n) (IsStart (suc n)) (λ d k. (omega (arith, k.0), k.1)) (x.table at) (h.has.table at);
            });
        knows = subst (λ (y : Clocks L). KnowsStart (suc n) y 1) (sym clocks) knows;
        within = subst (AreWithin (suc n)) (sym clocks) (within-more n x.clocks e h.within);
      }
    where
      clocks : (detector_after same alike n x e).clocks ≡ clocks_after n x.clocks e
      clocks = clocks-kept same alike (clock_before x.clocks e) n e.process e.accesses (record x { clocks = clocks_after n x.clocks e })

      by : (b : Bool) → nat_eq e.process 1 ≡ b → b ≡ true → suc n ≤ (if b || is_made e.makes 1
          then joined (ticked n e.process (clock_before x.clocks e)) (x.clocks.of_process 1)
          else x.clocks.of_process 1) 1
      by true t u =
          let own : ticked n e.process (clock_before x.clocks e) 1 ≡ suc n = ap (λ c. if c then suc n else clock_before x.clocks e 1) t in
          omega (arith, own)
      by false t u = absurd (false≢true u)

      knows : suc n ≤ (clocks_after n x.clocks e).of_process 1 1
      knows = by (nat_eq e.process 1) refl (eq-eqb e.process 1 is)

  -- no detector has more from then on
  start-agrees : (n : ℕ) (x : Detector L S) → IsAtStart n x
      → AgreesFrom n same alike x (record { clocks = zero_clocks; table = λ at. []; rows = [] })
  start-agrees n x h =
      record {
        clocks = record {
          process = λ p q. none (x.clocks.of_process p q) (h.within.process p q);
          unit = λ at q. none (x.clocks.of_location at q) (h.within.unit at q);
        };
        table = record {
          later = λ at. empty (x.table at) (h.has.table at);
          start = λ at. all-mapped (IsStart n) (λ d. d.step < n → d.process ≡ 1) (λ d k early. k.1) (x.table at) (h.has.table at);
        };
        rows = h.has.rows;
      }
    where
      none : (a : ℕ) → a ≤ n → max n a ≡ max n 0
      none a few = omega (arith, few)

      empty : (ds : List (StepAccess L S)) → AllByRecursion (IsStart n) ds → filter (is_later n same alike) ds ≡ []
      empty [] k = refl
      empty (d ∷ ds) k = filter-dropped (is_later n same alike) d ds (lt-leb n d.step k.0.0) ∙ empty ds k.1

-- ---- runs

module _ (program : Units)
    (rise : (p : ℕ) (s : State) → (length (state_after_turn program p s).processes ≡ length s.processes)
    ⊎ (length (state_after_turn program p s).processes ≡ length s.processes + 1)) where
  abbrev ADetector : Type 0
  ADetector = Detector Location Site

  abbrev after : ℕ → ADetector → Event → ADetector
  after n x e = detector_after same_location same_site n x e

  abbrev along : ℕ → ADetector → List Event → ADetector
  along n x es = detector_from same_location same_site n x es

  -- a process that lives has a number
  lives-within : (s : State) (p : ℕ) (top : Level × Process) → living s p ≡ Some top → (1 ≤ p) × (p ≤ length s.processes)
  lives-within s zero top lives = absurd (none-some top lives)
  lives-within s (suc k) top lives = by (slice_get s.processes k) refl lives
    where
      by : (o : Option Process) → slice_get s.processes k ≡ o → top_of o ≡ Some top → (1 ≤ suc k) × (suc k ≤ length s.processes)
      by None e none = absurd (none-some top none)
      by (Some q) e some = (omega arith, omega (arith, slice_get_within s.processes k q e))

  -- the event of a step has its process, and the process that the step makes
  record IsStepOf (p : ℕ) (s : State) (e : Event) : Type 0 where
    pub process : e.process ≡ p
    pub makes : e.makes ≡ process_made s (state_after_turn program p s)
    pub within : (1 ≤ p) × (p ≤ length s.processes)

  event-is : (p : ℕ) (s : State) → step program p s ≢ None → IsStepOf p s (event_of program p s (state_after_turn program p s))
  event-is p s stepped =
      let top = had-top program p s stepped in
      let lives : living s p ≡ Some top.0 = top.1 in
      subst (λ (o : Option (Level × Process)). IsStepOf p s (event_of_top program p s (state_after_turn program p s) o)) (sym lives) (
      record { process = refl; makes = refl; within = lives-within s p top.0 lives })

  -- ---- several processes

  -- each process knows of the start
  abbrev AllKnowStart : ℕ → ADetector → State → Type 0
  AllKnowStart n x s = (q : ℕ) → 1 ≤ q → q ≤ length s.processes → KnowsStart n x.clocks q

  all-know-more : (n m : ℕ) → n ≤ m → (x : ADetector) (p : ℕ) (s : State) → AllKnowStart n x s → (e : Event) → IsStepOf p s e
      → AllKnowStart n (after m x e) (state_after_turn program p s)
  all-know-more n m late x p s h e is q some few =
      subst (λ (y : Clocks Location). KnowsStart n y q) (sym clocks) (
      start-known n m x.clocks e late (subst (KnowsStart n x.clocks) (sym is.process) (h p is.within.0 is.within.1)) q (
      by (cases_lt (length s.processes) q)))
    where
      clocks : (after m x e).clocks ≡ clocks_after m x.clocks e
      clocks =
          clocks-kept same_location same_site (clock_before x.clocks e) m e.process e.accesses (
          record x { clocks = clocks_after m x.clocks e })

      t : State
      t = state_after_turn program p s

      or-right : (a b : Bool) → b ≡ true → (a || b) ≡ true
      or-right true b e = refl
      or-right false b e = e

      risen : length s.processes < q → (length t.processes ≡ length s.processes) ⊎ (length t.processes ≡ length s.processes + 1)
          → length t.processes ≡ length s.processes + 1
      risen above (inl same) = absurd (omega (arith, above, few, same))
      risen above (inr more) = more

      new : length s.processes < q → leads_to e q ≡ true
      new above =
          let more : length t.processes ≡ length s.processes + 1 = risen above (rise p s) in
          let own : suc (length s.processes) ≡ q = omega (arith, above, few, more) in
          or-right (nat_eq e.process q) (is_made e.makes q) (
          ap (λ (o : Option ℕ). is_made o q) (
          is.makes ∙ ap (λ b. if b then Some (suc (length s.processes)) else None) (
          lt-ltb (length s.processes) (length t.processes) (omega (arith, more))))
          ∙ eq-eqb (suc (length s.processes)) q own)

      by : (length s.processes < q) ⊎ (q ≤ length s.processes) → KnowsStart n x.clocks q ⊎ (leads_to e q ≡ true)
      by (inl above) = inr (new above)
      by (inr below) = inl (h q some below)

  -- so both detectors go on to the same rows
  later-rows : (n m : ℕ) → n ≤ m → (x y : ADetector) → AgreesFrom n same_location same_site x y → (s : State) (ps : List ℕ)
      → AreSteps program s ps → AllKnowStart n x s
      → (along m x (events_from program s ps)).rows ≡ (along m y (events_from program s ps)).rows
  unfolding detector_from events_from
  later-rows n m late x y h s [] steps k = h.rows
  later-rows n m late x y h s (p ∷ ps) steps k =
      let t = state_after_turn program p s in
      let e : Event = event_of program p s t in
      let is = event-is p s steps.0 in
      subst (λ (es : List Event). (along m x es).rows ≡ (along m y es).rows) (first-step program p s ps (step program p s) steps.0) (
      later-rows n (suc m) (omega (arith, late)) (after m x e) (after m y e) (
      step-agrees n same_location same_site m late x y h e (
      subst (KnowsStart n x.clocks) (sym is.process) (k p is.within.0 is.within.1))) t ps steps.1 (all-know-more n m late x p s k e is))

  -- ---- all steps

  abbrev see : ℕ → ℕ → State → RunSteps → RunSteps
  see entry = with_step program

  abbrev rows_of : RunSteps → List (ARow Location Site)
  rows_of x = rows_from same_location same_site x.alone x.events

  -- once there are several processes, each step is observed
  later-seen : (s : State) (ts : List (ℕ × ℕ)) → AreSteps program s (processes ts) → is_alone s ≡ false → (x : RunSteps)
      → seen_along program see s ts x ≡ record { alone = x.alone; events = x.events ++ events_from program s (processes ts) }
  unfolding seen_along events_from
  later-seen s [] steps several x = λ i. record { alone = x.alone; events = sym (append-nil x.events) i }
  later-seen s (t ∷ ts) steps several x =
      let u = state_after_turn program t.1 s in
      let e : Event = event_of program t.1 s u in
      let still : is_alone u ≡ false = lt-leb (length u.processes) 1 (more (rise t.1 s)) in
      let next : RunSteps = record { alone = x.alone; events = x.events ++ e ∷ [] } in
      ap (λ (b : Bool). seen_along program see u ts (if b then record x { alone = x.alone + 1 } else next)) still
      ∙ later-seen u ts steps.1 still next
      ∙ (λ i. record {
        alone = x.alone;
        events = (append_assoc x.events (e ∷ []) (events_from program u (processes ts))
            ∙ ap (λ (es : List Event). x.events ++ es) (first-step program t.1 s (processes ts) (step program t.1 s) steps.0)) i;
      })
    where
      more : (length (state_after_turn program t.1 s).processes ≡ length s.processes)
          ⊎ (length (state_after_turn program t.1 s).processes ≡ length s.processes + 1)
          → 1 < length (state_after_turn program t.1 s).processes
      more (inl same) = omega (arith, same, leb-false (length s.processes) 1 several)
      more (inr one) = omega (arith, one, leb-false (length s.processes) 1 several)

  -- the rows are those of the steps that are observed
  start-rows : (n : ℕ) (x : ADetector) → IsAtStart same_location same_site n x → (s : State) → length s.processes ≡ 1
      → (ts : List (ℕ × ℕ)) → AreSteps program s (processes ts)
      → (along n x (events_from program s (processes ts))).rows ≡ rows_of (seen_along program see s ts (record { alone = n; events = [] }))
  unfolding seen_along events_from detector_from
  start-rows n x h s one [] steps = h.has.rows
  start-rows n x h s one (t ∷ ts) steps =
      by (is_alone u) refl (λ k.
      start-rows (suc n) (after n x e) (start-more same_location same_site n x h e first) u k ts steps.1)
    where
      u : State
      u = state_after_turn program t.1 s

      e : Event
      e = event_of program t.1 s u

      all : List Event
      all = events_from program u (processes ts)

      is : IsStepOf t.1 s e
      is = event-is t.1 s steps.0

      first : e.process ≡ 1
      first = is.process ∙ omega (arith, one, is.within.0, is.within.1)

      come : e ∷ all ≡ with_event program t.1 s (λ v. events_from program v (processes ts)) (step program t.1 s)
      come = first-step program t.1 s (processes ts) (step program t.1 s) steps.0

      some : (length u.processes ≡ length s.processes) ⊎ (length u.processes ≡ length s.processes + 1) → 1 ≤ length u.processes
      some (inl same) = omega (arith, same, one)
      some (inr more) = omega (arith, more, one)

      counted : suc n ≡ n + 1
      counted = omega arith

      passed : RunSteps
      passed = record { alone = n + 1; events = [] }

      watched : RunSteps
      watched = record { alone = n; events = e ∷ [] }

      knows : AllKnowStart n x s
      knows q few most = subst (KnowsStart n x.clocks) (omega (arith, one, few, most)) h.knows

      by : (b : Bool) → is_alone u ≡ b
          → (length u.processes ≡ 1 → (along (suc n) (after n x e) all).rows
          ≡ rows_of (seen_along program see u ts (record { alone = suc n; events = [] })))
          → (along n x (with_event program t.1 s (λ v. events_from program v (processes ts)) (step program t.1 s))).rows
          ≡ rows_of (
          seen_along program see u ts (
          if b then passed else watched))
      by true alone rest =
          subst (λ (es : List Event). (along n x es).rows ≡ rows_of (seen_along program see u ts passed)) come (
          rest (omega (arith, leb-true (length u.processes) 1 alone, some (rise t.1 s)))
          ∙ ap (λ k. rows_of (seen_along program see u ts (record { alone = k; events = [] }))) counted)
      by false several rest =
          later-rows n n (omega arith) x (record { clocks = zero_clocks; table = λ at. []; rows = [] })
          (start-agrees same_location same_site n x h) s (t.1 ∷ processes ts) steps knows
          ∙ ap (rows_from same_location same_site n) (sym come)
          ∙ ap rows_of (sym (later-seen u ts steps.1 several watched))

  opening-one : length (opening program).processes ≡ 1
  unfolding opening
  opening-one = refl

  -- so they are, of a whole run
  pub rows-observed : (ts : List (ℕ × ℕ)) → AreSteps program (opening program) (processes ts)
      → rows_of (seen_along program see (opening program) ts (record { alone = 0; events = [] }))
      ≡ rows_by_clocks same_location same_site (events_of program (processes ts))
  unfolding events_of
  rows-observed ts steps =
      sym (
      start-rows 0 (record { clocks = zero_clocks; table = λ at. []; rows = [] }) (
      record {
        has = record { rows = refl; table = λ at. tt };
        knows = omega arith;
        within = record { process = λ p q. omega arith; unit = λ at q. omega arith };
      }) (opening program) opening-one ts steps)
