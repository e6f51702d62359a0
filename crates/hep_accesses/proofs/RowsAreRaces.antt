-- Each row is of a race, and each race has a row.
use Rattle.std.proofs.Common.{◌≡◌, inl, inr, ◌⊎◌, ◌≢◌, ℕ, suc, ◌+◌, ◌<◌, ◌≤◌, Bool, true, false, ◌&&◌, not, nat_eq, List, [], ◌∷◌, length}
use Rattle.std.proofs.Common.{Some, refl, sym, ap, ◌∙◌, subst, arith, if◌then◌else◌, slice_get}
use Rattle.std.proofs.lemmas.Bool.{and_parts, and_from, both_ways, cases_lt, eq-eqb, ne_eqb}
use Rattle.std.proofs.lemmas.Option.{same_Some, slice_get_within}
use Rattle.std.specs.Cmp.{IsEquivalence}
use Rattle.std.specs.List.{AllByRecursion, Contains, filter}
use Rattle.hep_accesses.specs.Events.{Access, Event}
use Rattle.hep_accesses.specs.HappensBefore.{IsBefore}
use Rattle.hep_accesses.specs.Pairs.{Pairs, is_racing, pairs_after, pairs_after_accesses, pairs_from, racing_with, rows_by_pairs}
use Rattle.hep_accesses.specs.Pasts.{Past, before_step, empty_past, past_after}
use Rattle.hep_accesses.specs.Races.{HasRow, IsAccessOf, IsRace, Row, StepAccess, conflicts, from_same_site, is_row_of, with_pair, with_pairs}
use Rattle.hep_accesses.proofs.Elements.{IsAmong, all-among, all-among_itself, all-both, all-mapped, all-passing, among-cases, among-contains}
use Rattle.hep_accesses.proofs.Elements.{among-filtered, among-none, behind, contains-among, here}
use Rattle.hep_accesses.proofs.Firsts.{all-firsts, covered}
use Rattle.hep_accesses.proofs.Pasts.{IsPastAt, before-complete, before-sound, nothing, past-more}
use Rattle.hep_accesses.proofs.Sites.{row-itself, row-replaced, site-equivalence}

module _ {L S : Type 0} (same : L → L → Bool) (alike : S → S → Bool) (laws : IsEquivalence alike) where
  -- ---- rows stay, and are added

  -- `HasRow` by cases on the list
  record IsListed (d y : StepAccess L S) (rows : List (Row L S)) : Type 0 where
    row : Row L S
    among : IsAmong row rows
    of_them : is_row_of alike d y row ≡ true

  -- a row more in front
  listed-more : (d y : StepAccess L S) (r : Row L S) (rs : List (Row L S)) → IsListed d y rs → IsListed d y (r ∷ rs)
  listed-more d y r rs h = record { row = h.row; among = behind h.among; of_them = h.of_them }

  -- a pair that is added leaves a row of each two sites that had one
  pair-keeps : (d y f w : StepAccess L S) (rows : List (Row L S)) → IsListed f w rows → IsListed f w (with_pair alike d y rows)
  pair-keeps d y f w rows h = by h.among
    where
      first : (r : Row L S) (rs : List (Row L S)) (b : Bool) → is_row_of alike f w r ≡ true
          → IsListed f w (if b then record r { times = r.times + 1 } ∷ rs else r ∷ with_pair alike d y rs)
      first r rs true e = record { row = record r { times = r.times + 1 }; among = here; of_them = e }
      first r rs false e = record { row = r; among = here; of_them = e }

      later : (r : Row L S) (rs : List (Row L S)) (b : Bool) → IsAmong h.row rs → IsListed f w (with_pair alike d y rs)
          → IsListed f w (if b then record r { times = r.times + 1 } ∷ rs else r ∷ with_pair alike d y rs)
      later r rs true among k = record { row = h.row; among = behind among; of_them = h.of_them }
      later r rs false among k = listed-more f w r (with_pair alike d y rs) k

      by : {rs : List (Row L S)} → IsAmong h.row rs → IsListed f w (with_pair alike d y rs)
      by (here {xs = rs}) = first h.row rs (is_row_of alike d y h.row) h.of_them
      by (behind {y = r} {xs = rs} k) = later r rs (is_row_of alike d y r) k (by k)

  -- a pair that is added has a row
  pair-adds : (d y : StepAccess L S) (rows : List (Row L S)) → IsListed d y (with_pair alike d y rows)
  pair-adds d y [] = record { row = record { first = d; second = y; times = 1 }; among = here; of_them = row-itself alike laws d y 1 }
  pair-adds d y (r ∷ rs) = by (is_row_of alike d y r) refl (pair-adds d y rs)
    where
      by : (b : Bool) → is_row_of alike d y r ≡ b → IsListed d y (with_pair alike d y rs)
          → IsListed d y (if b then record r { times = r.times + 1 } ∷ rs else r ∷ with_pair alike d y rs)
      by true e k = record { row = record r { times = r.times + 1 }; among = here; of_them = e }
      by false e k = listed-more d y r (with_pair alike d y rs) k

  -- several pairs leave a row of each two sites that had one
  pairs-keep : (y f w : StepAccess L S) (ds : List (StepAccess L S)) (rows : List (Row L S)) → IsListed f w rows
      → IsListed f w (with_pairs alike y ds rows)
  pairs-keep y f w [] rows h = h
  pairs-keep y f w (d ∷ ds) rows h = pairs-keep y f w ds (with_pair alike d y rows) (pair-keeps d y f w rows h)

  -- each of several pairs has a row
  pairs-add : (y : StepAccess L S) {d : StepAccess L S} {ds : List (StepAccess L S)} (rows : List (Row L S)) → IsAmong d ds
      → IsListed d y (with_pairs alike y ds rows)
  pairs-add y {d} rows (here {xs = ds}) = pairs-keep y d y ds (with_pair alike d y rows) (pair-adds d y rows)
  pairs-add y rows (behind {y = f} {xs = ds} h) = pairs-add y (with_pair alike f y rows) h

  module _ (es : List (Event L S)) where
    -- each row is of a race
    abbrev AreRaces : List (Row L S) → Type 0
    AreRaces rows = AllByRecursion (λ (r : Row L S). IsRace es same r.first r.second) rows

    -- a pair that races leaves rows of races
    pair-sound : (d y : StepAccess L S) (rows : List (Row L S)) → IsRace es same d y → AreRaces rows → AreRaces (with_pair alike d y rows)
    pair-sound d y [] race a = (race, tt)
    pair-sound d y (r ∷ rs) race a = by (is_row_of alike d y r) (pair-sound d y rs race a.1)
      where
        by : (b : Bool) → AreRaces (with_pair alike d y rs)
            → AreRaces (if b then record r { times = r.times + 1 } ∷ rs else r ∷ with_pair alike d y rs)
        by true k = (a.0, a.1)
        by false k = (a.0, k)

    -- so do several
    pairs-sound : (y : StepAccess L S) (ds : List (StepAccess L S)) (rows : List (Row L S)) → AllByRecursion (λ d. IsRace es same d y) ds
        → AreRaces rows → AreRaces (with_pairs alike y ds rows)
    pairs-sound y [] rows races a = a
    pairs-sound y (d ∷ ds) rows races a = pairs-sound y ds (with_pair alike d y rows) races.1 (pair-sound d y rows races.0 a)

    -- ---- a run

    -- after n steps all accesses are collected, each row is of a race, and each race has a row
    record AreCollected (n : ℕ) (x : Pairs L S) : Type 0 where
      past : IsPastAt es n x.past
      made : AllByRecursion (IsAccessOf es) x.earlier
      below : AllByRecursion (λ (d : StepAccess L S). d.step < n) x.earlier
      all : (d : StepAccess L S) → IsAccessOf es d → d.step < n → IsAmong d x.earlier
      sound : AreRaces x.rows
      complete : (d y : StepAccess L S) → IsRace es same d y → y.step < n → IsListed d y x.rows

    module _ (n : ℕ) (past : Past L) (h : IsPastAt es n past) (e : Event L S) (f : slice_get es n ≡ Some e) where
      -- the same between the accesses of step n, of which these are left
      record AreSoFar (left : List (Access L S)) (x : Pairs L S) : Type 0 where
        collected : x.past ≡ past_after n past e
        made : AllByRecursion (IsAccessOf es) x.earlier
        upto : AllByRecursion (λ (d : StepAccess L S). d.step < suc n) x.earlier
        others : (d : StepAccess L S) → IsAccessOf es d → d.step < n → IsAmong d x.earlier
        own : (d : StepAccess L S) → IsAccessOf es d → d.step ≡ n → IsAmong d.access left ⊎ IsAmong d x.earlier
        within : AllByRecursion (λ a. IsAmong a e.accesses) left
        sound : AreRaces x.rows
        complete : (d y : StepAccess L S) → IsRace es same d y → y.step < n → IsListed d y x.rows
        complete_here : (d y : StepAccess L S) → IsRace es same d y → y.step ≡ n → IsAmong y.access left ⊎ IsListed d y x.rows

      -- an access of step n is one of its event
      event-same : (d : StepAccess L S) → (m : IsAccessOf es d) → d.step ≡ n → m.event ≡ e
      event-same d m at = same_Some m.event e (sym (subst (λ k. slice_get es k ≡ Some m.event) at m.is) ∙ f)

      -- what passes the test is a race with an access of step n
      racing-race : (y : StepAccess L S) → y.step ≡ n → (mine : IsAccessOf es y) → (d : StepAccess L S) → IsAccessOf es d → d.step < suc n
          → is_racing same alike (before_step past e) y d ≡ true → IsRace es same d y
      racing-race y at mine d m below k =
          let parts =
          and_parts (not (nat_eq d.process y.process)) (conflicts same d.access y.access && not (before_step past e d.step)) k in
          let more = and_parts (conflicts same d.access y.access) (not (before_step past e d.step)) parts.1 in
          let differ : d.process ≢ y.process =
          λ p. both_ways (nat_eq d.process y.process) (grind (arith, parts.0)) (eq-eqb d.process y.process p) in
          record {
            first = m;
            second = mine;
            earlier = by (cases_lt d.step n) differ;
            different = differ;
            conflict = more.0;
            unordered =
                λ b. both_ways (before_step past e d.step) (grind (arith, more.1)) (
                before-complete es n past h e f d.step (subst (IsBefore es d.step) at b));
          }
        where
          by : (d.step < n) ⊎ (n ≤ d.step) → d.process ≢ y.process → d.step < y.step
          by (inl less) differ = omega (arith, at)
          by (inr more) differ =
              let here_too : d.step ≡ n = omega arith in
              absurd (
              differ (sym m.process ∙ ap (λ (g : Event L S). g.process) (event-same d m here_too ∙ sym (event-same y mine at))
              ∙ mine.process))

      -- and each race with one passes it
      race-racing : (d y : StepAccess L S) → IsRace es same d y → y.step ≡ n → is_racing same alike (before_step past e) y d ≡ true
      race-racing d y race at =
          and_from (not (nat_eq d.process y.process)) (conflicts same d.access y.access && not (before_step past e d.step)) (
          ap not (ne_eqb d.process y.process race.different)) (
          and_from (conflicts same d.access y.access) (not (before_step past e d.step)) race.conflict (by (before_step past e d.step) refl))
        where
          by : (b : Bool) → before_step past e d.step ≡ b → not b ≡ true
          by true k = absurd (race.unordered (subst (IsBefore es d.step) (sym at) (before-sound es n past h e f d.step k)))
          by false k = refl

      module _ (a : Access L S) (left : List (Access L S)) (x : Pairs L S) (so : AreSoFar (a ∷ left) x) where
        -- the next access of step n
        abbrev now : StepAccess L S
        now = record { step = n; process = e.process; access = a }

        -- the accesses that race with it
        abbrev found : List (StepAccess L S)
        found = racing_with same alike (before_step past e) now x.earlier

        -- the rows with these
        abbrev rows_now : List (Row L S)
        rows_now = with_pairs alike now found x.rows

        -- it is an access of the run
        mine : IsAccessOf es now
        mine = record { event = e; is = f; process = refl; among = contains-among so.within.0 }

        -- step n has one access of this kind
        is-now : (d : StepAccess L S) → IsAccessOf es d → d.step ≡ n → d.access ≡ a → d ≡ now
        is-now d m at same_access =
            let p : d.process ≡ e.process = sym m.process ∙ ap (λ (g : Event L S). g.process) (event-same d m at) in
            λ i. record { step = at i; process = p i; access = same_access i }

        -- each access of step n is still to come or collected
        own-now : (d : StepAccess L S) → IsAccessOf es d → d.step ≡ n → IsAmong d.access (a ∷ left) ⊎ IsAmong d x.earlier
            → IsAmong d.access left ⊎ IsAmong d (now ∷ x.earlier)
        own-now d m at (inr k) = inr (behind k)
        own-now d m at (inl k) = by (among-cases k)
          where
            by : (d.access ≡ a) ⊎ IsAmong d.access left → IsAmong d.access left ⊎ IsAmong d (now ∷ x.earlier)
            by (inl g) = inr (subst (λ (w : StepAccess L S). IsAmong w (now ∷ x.earlier)) (sym (is-now d m at g)) here)
            by (inr g) = inl g

        -- all that is found races
        races-now : AllByRecursion (λ d. IsRace es same d now) found
        races-now =
            let test : StepAccess L S → Bool = is_racing same alike (before_step past e) now in
            all-firsts (λ d. IsRace es same d now) (from_same_site alike) (filter test x.earlier) (
            all-mapped (λ d. (IsAccessOf es d × (d.step < suc n)) × (test d ≡ true)) (λ d. IsRace es same d now) (
            λ d k. racing-race now refl mine d k.0.0 k.0.1 k.1) (filter test x.earlier) (
            all-passing (λ d. IsAccessOf es d × (d.step < suc n)) test x.earlier (
            all-both (IsAccessOf es) (λ d. d.step < suc n) x.earlier so.made so.upto)))

        -- each race with this access has a row
        row-now : (d : StepAccess L S) → IsRace es same d now → IsListed d now rows_now
        row-now d race =
            let test : StepAccess L S → Bool = is_racing same alike (before_step past e) now in
            let among : IsAmong d (filter test x.earlier) =
            among-filtered test (race-racing d now race refl) (so.others d race.first race.earlier) in
            let c = covered (from_same_site alike) (site-equivalence alike laws) among in
            let r = pairs-add now x.rows c.1 in
            record { row = r.row; among = r.among; of_them = row-replaced alike laws c.0 d now r.row c.2 ∙ r.of_them }

        -- each race with an access of step n is still to come or has a row
        complete-now : (d w : StepAccess L S) → IsRace es same d w → w.step ≡ n → IsAmong w.access (a ∷ left) ⊎ IsListed d w x.rows
            → IsAmong w.access left ⊎ IsListed d w rows_now
        complete-now d w race at (inr k) = inr (pairs-keep now d w found x.rows k)
        complete-now d w race at (inl k) = by (among-cases k)
          where
            by : (w.access ≡ a) ⊎ IsAmong w.access left → IsAmong w.access left ⊎ IsListed d w rows_now
            by (inl g) =
                let one = is-now w race.second at g in
                inr (
                subst (λ (v : StepAccess L S). IsListed d v rows_now) (sym one) (
                row-now d (subst (λ (v : StepAccess L S). IsRace es same d v) one race)))
            by (inr g) = inl g

        -- one access more of step n
        so-more : AreSoFar left (record { past = x.past; earlier = now ∷ x.earlier; rows = rows_now })
        so-more =
            record {
              collected = so.collected;
              made = (mine, so.made);
              upto = (omega arith, so.upto);
              others = λ d m k. behind (so.others d m k);
              own = λ d m k. own-now d m k (so.own d m k);
              within = so.within.1;
              sound = pairs-sound now found x.rows races-now so.sound;
              complete = λ d w race k. pairs-keep now d w found x.rows (so.complete d w race k);
              complete_here = λ d w race k. complete-now d w race k (so.complete_here d w race k);
            }

      -- all accesses of step n
      accesses-collected : (left : List (Access L S)) (x : Pairs L S) → AreSoFar left x
          → AreCollected (suc n) (pairs_after_accesses same alike (before_step past e) n e.process left x)
      accesses-collected (a ∷ left) x so = accesses-collected left _ (so-more a left x so)
      accesses-collected [] x so =
          record {
            past = subst (IsPastAt es (suc n)) (sym so.collected) (past-more es n past h e f);
            made = so.made;
            below = so.upto;
            all = λ d m k. in-all d m (cases_lt d.step n) k;
            sound = so.sound;
            complete = λ d w race k. in-complete d w race (cases_lt w.step n) k;
          }
        where
          left-none : {P : Type 0} (d : StepAccess L S) → IsAmong d.access [] ⊎ P → P
          left-none d (inl k) = absurd (among-none k)
          left-none d (inr k) = k

          in-all : (d : StepAccess L S) → IsAccessOf es d → (d.step < n) ⊎ (n ≤ d.step) → d.step < suc n → IsAmong d x.earlier
          in-all d m (inl k) below = so.others d m k
          in-all d m (inr k) below = left-none d (so.own d m (omega arith))

          in-complete : (d w : StepAccess L S) → IsRace es same d w → (w.step < n) ⊎ (n ≤ w.step) → w.step < suc n → IsListed d w x.rows
          in-complete d w race (inl k) below = so.complete d w race k
          in-complete d w race (inr k) below = left-none w (so.complete_here d w race (omega arith))

    -- a step more
    step-collected : (n : ℕ) (x : Pairs L S) (e : Event L S) → slice_get es n ≡ Some e → AreCollected n x
        → AreCollected (suc n) (pairs_after same alike n x e)
    step-collected n x e f h =
        accesses-collected n x.past h.past e f e.accesses (record x { past = past_after n x.past e }) (
        record {
          collected = refl;
          made = h.made;
          upto =
              all-mapped (λ (d : StepAccess L S). d.step < n) (λ (d : StepAccess L S). d.step < suc n)
              (λ d k. omega arith) x.earlier h.below;
          others = h.all;
          own = λ d m k. inl (own d m k);
          within = all-among_itself e.accesses;
          sound = h.sound;
          complete = h.complete;
          complete_here = λ d w race k. inl (own w race.second k);
        })
      where
        own : (d : StepAccess L S) → IsAccessOf es d → d.step ≡ n → IsAmong d.access e.accesses
        own d m k =
            subst (λ (g : Event L S). IsAmong d.access g.accesses) (event-same n x.past h.past e f d m k) (
            among-contains m.event.accesses m.among)

    -- several steps more
    run-collected : (n : ℕ) (x : Pairs L S) (ds : List (Event L S))
        → ((m : ℕ) (d : Event L S) → slice_get ds m ≡ Some d → slice_get es (n + m) ≡ Some d) → AreCollected n x
        → AreCollected (n + length ds) (pairs_from same alike n x ds)
    unfolding pairs_from
    run-collected n x [] own h = subst (λ k. AreCollected k x) (omega arith) h
    run-collected n x (d ∷ ds) own h =
        let is_there : slice_get es n ≡ Some d = subst (λ k. slice_get es k ≡ Some d) (omega arith) (own 0 d refl) in
        subst (λ k. AreCollected k (pairs_from same alike (suc n) (pairs_after same alike n x d) ds)) (omega arith) (
        run-collected (suc n) (pairs_after same alike n x d) ds (
        λ m g is. subst (λ k. slice_get es k ≡ Some g) (omega arith) (own (suc m) g is)) (step-collected n x d is_there h))

    -- the whole run
    all-collected : AreCollected (length es) (pairs_from same alike 0 (record { past = empty_past; earlier = []; rows = [] }) es)
    all-collected =
        subst (λ k. AreCollected k (pairs_from same alike 0 (record { past = empty_past; earlier = []; rows = [] }) es)) (omega arith) (
        run-collected 0 (record { past = empty_past; earlier = []; rows = [] }) es (
        λ m d is. subst (λ k. slice_get es k ≡ Some d) (omega arith) is) (
        record {
          past = nothing es;
          made = tt;
          below = tt;
          all = λ d m k. absurd (omega arith);
          sound = tt;
          complete = λ d w race k. absurd (omega arith);
        }))

    -- each row is of a race
    pub rows-sound : (r : Row L S) → Contains (rows_by_pairs same alike es) r → IsRace es same r.first r.second
    rows-sound r k =
        all-among (λ (w : Row L S). IsRace es same w.first w.second) all-collected.sound (among-contains (rows_by_pairs same alike es) k)

    -- each race has a row
    pub rows-complete : (d y : StepAccess L S) → IsRace es same d y → HasRow alike d y (rows_by_pairs same alike es)
    rows-complete d y race =
        let r = all-collected.complete d y race (slice_get_within es y.step race.second.event race.second.is) in
        record { row = r.row; listed = contains-among r.among; of_them = r.of_them }
