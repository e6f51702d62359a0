-- The rows by clocks are those by all pairs.
use Rattle.std.proofs.Common.{◌≡◌, inl, inr, ◌⊎◌, ℕ, suc, ◌+◌, ◌<◌, ◌≤◌, Bool, true, false, ◌&&◌, ◌||◌, not, cond, nat_eq, nat_le, List, []}
use Rattle.std.proofs.Common.{◌∷◌, Some, refl, sym, ap, ◌∙◌, subst, arith, if◌then◌else◌, slice_get}
use mathlib.Core.Bool.{beq}
use Rattle.std.proofs.lemmas.Bool.{and_parts, and_from, both_ways, cases_lt, cases_eq, eqb-true, eq-eqb, le-leb, lt-leb, or_left}
use Rattle.std.specs.Cmp.{IsEquivalence}
use Rattle.std.specs.List.{AllByRecursion, filter}
use Rattle.hep_accesses.specs.Clocks.{Clocks, clock_before, clocks_after, zero_clocks}
use Rattle.hep_accesses.specs.Detector.{Detector, Table, detector_after, detector_after_accesses, detector_from, is_racing_by_clock}
use Rattle.hep_accesses.specs.Detector.{is_repeated, racing_by_clock, rows_by_clocks, with_access}
use Rattle.hep_accesses.specs.Events.{Access, Event, is_made}
use Rattle.hep_accesses.specs.Firsts.{first_of_each}
use Rattle.hep_accesses.specs.HappensBefore.{IsDirectlyBefore, directly}
use Rattle.hep_accesses.specs.Pairs.{Pairs, is_racing, pairs_after, pairs_after_accesses, pairs_from, racing_with, rows_by_pairs}
use Rattle.hep_accesses.specs.Pasts.{Past, before_step, empty_past, past_after}
use Rattle.hep_accesses.specs.Races.{StepAccess, conflicts, from_same_site, with_pairs}
use Rattle.hep_accesses.proofs.Clocks.{AreAlike, alike-more, alike-nothing, before-clock}
use Rattle.hep_accesses.proofs.Elements.{all-filtered, all-mapped, all-passed, all_of}
use Rattle.hep_accesses.proofs.Firsts.{RisesTo, all-firsts, filter-absorbed, filter-same, firsts-of-firsts}
use Rattle.hep_accesses.proofs.Orders.{before-transitive}
use Rattle.hep_accesses.proofs.Pasts.{IsPastAt, before-complete, before-sound, nothing, past-more}
use Rattle.hep_accesses.proofs.Sites.{like_replaced, site-equivalence, stores-same}

module _ {L S : Type 0} where
  -- the latest first
  abbrev pub AreLatestFirst : List (StepAccess L S) → Type 0
  AreLatestFirst [] = Unit {0}
  AreLatestFirst (x ∷ xs) = AllByRecursion (λ (y : StepAccess L S). y.step ≤ x.step) xs × AreLatestFirst xs

  -- so are those that pass a test
  latest-filtered : (q : StepAccess L S → Bool) (xs : List (StepAccess L S)) → AreLatestFirst xs → AreLatestFirst (filter q xs)
  latest-filtered q [] h = tt
  latest-filtered q (x ∷ xs) h = by (q x) (latest-filtered q xs h.1)
    where
      by : (b : Bool) → AreLatestFirst (filter q xs) → AreLatestFirst (cond b (x ∷ filter q xs) (filter q xs))
      by true rest = (all-filtered (λ (y : StepAccess L S). y.step ≤ x.step) q xs h.0, rest)
      by false rest = rest

  -- it has the process of its step
  pub record IsOfStep (es : List (Event L S)) (d : StepAccess L S) : Type 0 where
    pub event : Event L S
    pub is : slice_get es d.step ≡ Some event
    pub process : event.process ≡ d.process

module _ {L S : Type 0} (same : L → L → Bool) (alike : S → S → Bool) (laws : IsEquivalence alike) where
  -- an access that is repeated is from the same site
  finer : (x y : StepAccess L S) → is_repeated same alike x y ≡ true → from_same_site alike x y ≡ true
  finer x y e = (and_parts (nat_eq x.process y.process) (from_same_site alike x y) e).1

  module _ (es : List (Event L S)) where
    -- all accesses of the steps before n, and some of step n
    pub record AreEarlier (n : ℕ) (earlier : List (StepAccess L S)) : Type 0 where
      pub made : AllByRecursion (IsOfStep es) earlier
      pub below : AllByRecursion (λ (d : StepAccess L S). d.step ≤ n) earlier
      pub latest_first : AreLatestFirst earlier

    -- the accesses at a storage unit
    abbrev accesses_at : L → List (StepAccess L S) → List (StepAccess L S)
    accesses_at at ds = filter (λ (d : StepAccess L S). same d.access.at at) ds

    -- the table has of the accesses at each storage unit the first one of each process and site
    abbrev pub IsTableOf : List (StepAccess L S) → Table L S → Type 0
    IsTableOf earlier table =
        (at : L) → table at ≡ first_of_each (is_repeated same alike) (accesses_at at earlier)

    -- ---- one access

    module _ (n : ℕ) (x : Past L) (c : Clocks L) (h : IsPastAt es n x) (g : AreAlike es n x c) (e : Event L S)
        (f : slice_get es n ≡ Some e) (y : StepAccess L S) (is_y : y.process ≡ e.process) where
      -- an earlier access races with y, by the past
      abbrev test : StepAccess L S → Bool
      test = is_racing same alike (before_step x e) y

      -- and by the clock
      abbrev test_by_clock : StepAccess L S → Bool
      test_by_clock = is_racing_by_clock same alike (clock_before c e) y

      -- past and clock agree on an access that was made
      before-is-clock : (d : StepAccess L S) → IsOfStep es d → (b : Bool) → before_step x e d.step ≡ b
          → nat_le (suc d.step) (clock_before c e d.process) ≡ b
      before-is-clock d m true k =
          le-leb (suc d.step) (clock_before c e d.process) (
          subst (λ p. suc d.step ≤ clock_before c e p) m.process ((before-clock es n x c g e f).sound d.step m.event m.is k))
      before-is-clock d m false k = by (cases_lt (clock_before c e d.process) (suc d.step))
        where
          by : (clock_before c e d.process < suc d.step) ⊎ (suc d.step ≤ clock_before c e d.process)
              → nat_le (suc d.step) (clock_before c e d.process) ≡ false
          by (inl above) = lt-leb (suc d.step) (clock_before c e d.process) above
          by (inr below) =
              absurd (
              both_ways (before_step x e d.step) k (
              (before-clock es n x c g e f).complete d.step m.event m.is (
              subst (λ p. suc d.step ≤ clock_before c e p) (sym m.process) below)))

      -- so both tests agree
      same-test : (d : StepAccess L S) → IsOfStep es d → test_by_clock d ≡ test d
      same-test d m =
          ap (λ b. not (nat_eq d.process y.process) && (conflicts same d.access y.access && not b)) (
          before-is-clock d m (before_step x e d.step) refl)

      -- what isn't before, of one process, is followed by what isn't either
      later-unknown : (d u : StepAccess L S) → IsOfStep es d → IsOfStep es u → u.step ≤ d.step → d.process ≡ u.process
          → before_step x e u.step ≡ false → (b : Bool) → before_step x e d.step ≡ b → b ≡ false
      later-unknown d u md mu order process unknown false k = refl
      later-unknown d u md mu order process unknown true k =
          absurd (both_ways (before_step x e u.step) unknown (by (cases_eq u.step d.step)))
        where
          by : (u.step ≡ d.step) ⊎ ((u.step ≡ d.step) → ⊥) → before_step x e u.step ≡ true
          by (inl s) = ap (before_step x e) s ∙ k
          by (inr s) =
              let direct : IsDirectlyBefore es u.step d.step =
              record {
                first = mu.event;
                second = md.event;
                first_is = mu.is;
                second_is = md.is;
                earlier = omega arith;
                why =
                    inl (or_left (nat_eq mu.event.process md.event.process) (is_made mu.event.makes md.event.process) (
                    eq-eqb mu.event.process md.event.process (mu.process ∙ sym process ∙ sym md.process)));
              } in
              before-complete es n x h e f u.step (before-transitive (directly direct) (before-sound es n x h e f d.step k))

      -- where an access races with y, so does each later one that repeats it
      rises : (d u : StepAccess L S) → IsOfStep es d → IsOfStep es u → u.step ≤ d.step → same d.access.at y.access.at ≡ true
          → is_repeated same alike d u ≡ true → test u ≡ true → test d ≡ true
      rises d u md mu order there again k =
          let repeated = and_parts (nat_eq d.process u.process) (from_same_site alike d u) again in
          let process_same : d.process ≡ u.process = eqb-true d.process u.process repeated.0 in
          let sites = and_parts (alike d.access.site u.access.site) (beq d.access.stores u.access.stores) repeated.1 in
          let kind_same : d.access.stores ≡ u.access.stores = stores-same d.access.stores u.access.stores sites.1 in
          let parts = and_parts (not (nat_eq u.process y.process)) (conflicts same u.access y.access && not (before_step x e u.step)) k in
          let more = and_parts (conflicts same u.access y.access) (not (before_step x e u.step)) parts.1 in
          let kinds = and_parts (same u.access.at y.access.at) (u.access.stores || y.access.stores) more.0 in
          let unknown : before_step x e u.step ≡ false = grind (arith, more.1) in
          and_from (not (nat_eq d.process y.process)) (conflicts same d.access y.access && not (before_step x e d.step)) (
          ap (λ p. not (nat_eq p y.process)) process_same ∙ parts.0) (
          and_from (conflicts same d.access y.access) (not (before_step x e d.step)) (
          and_from (same d.access.at y.access.at) (d.access.stores || y.access.stores) there (
          ap (λ b. b || y.access.stores) kind_same ∙ kinds.1)) (
          ap not (later-unknown d u md mu order process_same unknown (before_step x e d.step) refl)))

      -- at the storage unit of y
      abbrev IsHere : StepAccess L S → Type 0
      IsHere d = same d.access.at y.access.at ≡ true

      -- so it is of all below one access
      rises-below : (d : StepAccess L S) → IsOfStep es d → IsHere d → (ws : List (StepAccess L S)) → AllByRecursion (IsOfStep es) ws
          → AllByRecursion (λ (u : StepAccess L S). u.step ≤ d.step) ws
          → AllByRecursion (λ (u : StepAccess L S). is_repeated same alike d u ≡ true → test u ≡ true → test d ≡ true) ws
      rises-below d md there [] made order = tt
      rises-below d md there (u ∷ us) made order = (rises d u md made.0 order.0 there, rises-below d md there us made.1 order.1)

      -- so it is along a list with the latest first
      all-rise : (ws : List (StepAccess L S)) → AllByRecursion (IsOfStep es) ws → AllByRecursion IsHere ws → AreLatestFirst ws
          → RisesTo (is_repeated same alike) test ws
      all-rise [] made here order = tt
      all-rise (d ∷ ds) made here order = (rises-below d made.0 here.0 ds made.1 order.0, all-rise ds made.1 here.1 order.1)

      -- what races with y is at its storage unit
      racing-here : (d : StepAccess L S) → test d ≡ true → IsHere d
      racing-here d k =
          let parts = and_parts (not (nat_eq d.process y.process)) (conflicts same d.access y.access && not (before_step x e d.step)) k in
          let more = and_parts (conflicts same d.access y.access) (not (before_step x e d.step)) parts.1 in
          (and_parts (same d.access.at y.access.at) (d.access.stores || y.access.stores) more.0).0

      -- the table gives the same pairs as all accesses so far
      pub same-pairs : (earlier : List (StepAccess L S)) (table : Table L S) → AreEarlier n earlier → IsTableOf earlier table
          → racing_by_clock same alike (clock_before c e) y (table y.access.at) ≡ racing_with same alike (before_step x e) y earlier
      same-pairs earlier table a is =
          let at_y : StepAccess L S → Bool = λ (d : StepAccess L S). same d.access.at y.access.at in
          let ws : List (StepAccess L S) = filter at_y earlier in
          let made : AllByRecursion (IsOfStep es) ws = all-filtered (IsOfStep es) at_y earlier a.made in
          let site : StepAccess L S → StepAccess L S → Bool = from_same_site alike in
          ap (λ ds. racing_by_clock same alike (clock_before c e) y ds) (is y.access.at)
          ∙ ap (first_of_each site) (
          filter-same test_by_clock test (first_of_each (is_repeated same alike) ws) (
          all-mapped (IsOfStep es) (λ d. test_by_clock d ≡ test d) same-test (first_of_each (is_repeated same alike) ws) (
          all-firsts (IsOfStep es) (is_repeated same alike) ws made)))
          ∙ firsts-of-firsts (is_repeated same alike) site finer (like_replaced (site-equivalence alike laws)) test ws (
          all-rise ws made (all-passed at_y earlier) (latest-filtered at_y earlier a.latest_first))
          ∙ ap (first_of_each site) (
          filter-absorbed test at_y earlier (all_of (λ (d : StepAccess L S). test d ≡ true → at_y d ≡ true) racing-here earlier))

    -- ---- the accesses of a step

    -- the table after one more access
    table-more : (y : StepAccess L S) (earlier : List (StepAccess L S)) (table : Table L S) → IsTableOf earlier table
        → IsTableOf (y ∷ earlier) (with_access same alike y table)
    table-more y earlier table is at = by (same y.access.at at)
      where
        by : (b : Bool)
            → (if b then y ∷ filter (λ d. not (is_repeated same alike y d)) (table at) else table at)
            ≡ first_of_each (is_repeated same alike) (cond b (y ∷ accesses_at at earlier) (accesses_at at earlier))
        by true = ap (λ ds. y ∷ filter (λ d. not (is_repeated same alike y d)) ds) (is at)
        by false = is at

    -- the same rows, and all that they are made of
    pub record AreSame (n : ℕ) (x : Pairs L S) (c : Detector L S) : Type 0 where
      pub past : IsPastAt es n x.past
      pub clocks : AreAlike es n x.past c.clocks
      pub earlier : AreEarlier n x.earlier
      pub table : IsTableOf x.earlier c.table
      pub rows : c.rows ≡ x.rows

    module _ (n : ℕ) (past : Past L) (clocks : Clocks L) (h : IsPastAt es n past) (g : AreAlike es n past clocks) (e : Event L S)
        (f : slice_get es n ≡ Some e) where
      -- the same between the accesses of step n
      record AreSameAt (x : Pairs L S) (c : Detector L S) : Type 0 where
        past_is : x.past ≡ past_after n past e
        clocks_are : c.clocks ≡ clocks_after n clocks e
        earlier : AreEarlier n x.earlier
        table : IsTableOf x.earlier c.table
        rows : c.rows ≡ x.rows

      -- one access more
      access-same : (a : Access L S) (x : Pairs L S) (c : Detector L S) → AreSameAt x c → (y : StepAccess L S)
          → y ≡ record { step = n; process = e.process; access = a }
          → AreSameAt (record {
            past = x.past;
            earlier = y ∷ x.earlier;
            rows = with_pairs alike y
                (racing_with same alike (before_step past e) y x.earlier) x.rows;
          })
          (record {
            clocks = c.clocks;
            table = with_access same alike y c.table;
            rows = with_pairs alike y
                (racing_by_clock same alike (clock_before clocks e) y (c.table y.access.at)) c.rows;
          })
      access-same a x c s y is =
          let step_is : y.step ≡ n = ap (λ (w : StepAccess L S). w.step) is in
          let process_is : y.process ≡ e.process = ap (λ (w : StepAccess L S). w.process) is in
          record {
            past_is = s.past_is;
            clocks_are = s.clocks_are;
            earlier =
                record {
                  made = (
                    record {
                      event = e;
                      is = subst (λ k. slice_get es k ≡ Some e) (sym step_is) f;
                      process =
                          sym process_is;
                    },
                    s.earlier.made,
                  );
                  below = (omega (arith, step_is), s.earlier.below);
                  latest_first = (
                    all-mapped (λ (d : StepAccess L S). d.step ≤ n) (λ (d : StepAccess L S). d.step ≤ y.step)
                        (λ d k. omega (arith, step_is)) x.earlier s.earlier.below,
                    s.earlier.latest_first,
                  );
                };
            table = table-more y x.earlier c.table s.table;
            rows =
                ap (λ ds. with_pairs alike y ds c.rows) (same-pairs n past clocks h g e f y process_is x.earlier c.table s.earlier s.table)
                ∙ ap (with_pairs alike y (racing_with same alike (before_step past e) y x.earlier)) s.rows;
          }

      -- all accesses of step n
      accesses-same : (accesses : List (Access L S)) (x : Pairs L S) (c : Detector L S) → AreSameAt x c
          → AreSame (suc n) (pairs_after_accesses same alike (before_step past e) n e.process accesses x)
          (detector_after_accesses same alike (clock_before clocks e) n e.process accesses c)
      accesses-same [] x c s =
          record {
            past = subst (IsPastAt es (suc n)) (sym s.past_is) (past-more es n past h e f);
            clocks =
                subst (λ (z : Past L). AreAlike es (suc n) z c.clocks) (sym s.past_is) (
                subst (AreAlike es (suc n) (past_after n past e)) (sym s.clocks_are) (alike-more es n past clocks g e f));
            earlier =
                record {
                  made = s.earlier.made;
                  below = all-mapped (λ (d : StepAccess L S). d.step ≤ n) (λ (d : StepAccess L S). d.step ≤ suc n)
                      (λ d k. omega arith) x.earlier s.earlier.below;
                  latest_first = s.earlier.latest_first;
                };
            table = s.table;
            rows = s.rows;
          }
      accesses-same (a ∷ others) x c s = accesses-same others _ _ (access-same a x c s _ refl)

    -- ---- a run

    -- several steps more
    pub same-along : (n : ℕ) (x : Pairs L S) (c : Detector L S) (ds : List (Event L S))
        → ((m : ℕ) (d : Event L S) → slice_get ds m ≡ Some d → slice_get es (n + m) ≡ Some d) → AreSame n x c
        → (detector_from same alike n c ds).rows ≡ (pairs_from same alike n x ds).rows
    unfolding pairs_from detector_from
    same-along n x c [] own h = h.rows
    same-along n x c (d ∷ ds) own h =
        let there : slice_get es n ≡ Some d = subst (λ k. slice_get es k ≡ Some d) (omega arith) (own 0 d refl) in
        same-along (suc n) (pairs_after same alike n x d) (detector_after same alike n c d) ds (
        λ m g is. subst (λ k. slice_get es k ≡ Some g) (omega arith) (own (suc m) g is)) (
        accesses-same n x.past c.clocks h.past h.clocks d there d.accesses (record x { past = past_after n x.past d }) (
        record c { clocks = clocks_after n c.clocks d }) (
        record { past_is = refl; clocks_are = refl; earlier = h.earlier; table = h.table; rows = h.rows }))

  -- the rows of a run are the same
  pub same-rows : (es : List (Event L S)) → rows_by_clocks same alike es ≡ rows_by_pairs same alike es
  same-rows es =
      same-along es 0 (record { past = empty_past; earlier = []; rows = [] })
      (record { clocks = zero_clocks; table = λ at. []; rows = [] }) es (
      λ m d is. subst (λ k. slice_get es k ≡ Some d) (omega arith) is) (
      record {
        past = nothing es;
        clocks = alike-nothing es;
        earlier = record { made = tt; below = tt; latest_first = tt };
        table = λ at. refl;
        rows = refl;
      })
