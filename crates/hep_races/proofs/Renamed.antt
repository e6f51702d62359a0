-- The rows of a run in which storage units and sites have other names.
use mathlib.Core.Bool.{beq}
use Rattle.std.proofs.Common.{◌≡◌, ℕ, ◌+◌, suc, Bool, true, false, not, ◌&&◌, ◌||◌, cond, if◌then◌else◌, nat_eq, nat_le, List, [], ◌∷◌}
use Rattle.std.proofs.Common.{Option, Some, None, refl, sym, ap, subst}
use Rattle.std.specs.List.{AllZip, filter}
use Rattle.hep_accesses.specs.Clocks.{Clock, Clocks, clock_before, clock_of_need, clocks_after, joined, ticked, zero_clocks}
use Rattle.hep_accesses.specs.Detector.{Detector, Table, detector_after, detector_after_accesses, detector_from, is_racing_by_clock}
use Rattle.hep_accesses.specs.Detector.{is_repeated, racing_by_clock, rows_from, with_access}
use Rattle.hep_accesses.specs.Events.{Access, Event, is_made}
use Rattle.hep_accesses.specs.Firsts.{first_of_each}
use Rattle.hep_accesses.specs.Races.{Row, StepAccess, conflicts, from_same_site, is_row_of, with_pair, with_pairs}
use Rattle.hep_races.specs.Renamings.{AreTestsKept, IsRenamedAccess, IsRenamedEvent, IsRenamedNeed, IsRenamedRow, IsRenamedStep, Renaming}

-- ---- lists, element by element

module _ {X Y : Type 0} (R : X → Y → Type 0) where
  -- those that pass tests that agree
  filter-zipped : (p : X → Bool) (q : Y → Bool) → ((x : X) (y : Y) → R x y → q y ≡ p x) → (xs : List X) (ys : List Y) → AllZip R xs ys
      → AllZip R (filter p xs) (filter q ys)
  filter-zipped p q agree [] [] h = h
  filter-zipped p q agree [] (y ∷ ys) h = absurd h
  filter-zipped p q agree (x ∷ xs) [] h = absurd h
  filter-zipped p q agree (x ∷ xs) (y ∷ ys) h = by (p x) (q y) (agree x y h.0) (filter-zipped p q agree xs ys h.1)
    where
      by : (b c : Bool) → c ≡ b → AllZip R (filter p xs) (filter q ys)
          → AllZip R (cond b (x ∷ filter p xs) (filter p xs)) (cond c (y ∷ filter q ys) (filter q ys))
      by true true e rest = (h.0, rest)
      by true false e rest = cc
      by false true e rest = cc
      by false false e rest = rest

  -- the first of each kind, by tests that agree
  firsts-zipped : (p : X → X → Bool) (q : Y → Y → Bool)
      → ((x z : X) (y w : Y) → R x y → R z w → q y w ≡ p x z) → (xs : List X) (ys : List Y) → AllZip R xs ys
      → AllZip R (first_of_each p xs) (first_of_each q ys)
  firsts-zipped p q agree [] [] h = h
  firsts-zipped p q agree [] (y ∷ ys) h = absurd h
  firsts-zipped p q agree (x ∷ xs) [] h = absurd h
  firsts-zipped p q agree (x ∷ xs) (y ∷ ys) h = (
    h.0,
    filter-zipped (λ z. not (p x z)) (λ w. not (q y w)) (λ z w k. ap not (agree x z y w h.0 k)) (first_of_each p xs) (first_of_each q ys) (
        firsts-zipped p q agree xs ys h.1),
  )

module _ {L M S T : Type 0} (r : Renaming L M S T) (same : L → L → Bool) (same_there : M → M → Bool) (alike : S → S → Bool)
    (alike_there : T → T → Bool) (kept : AreTestsKept r same same_there alike alike_there) where
  -- ---- accesses

  -- they are from the same site under both names
  site-kept : (x z : StepAccess L S) (y w : StepAccess M T) → IsRenamedStep r x y → IsRenamedStep r z w
      → from_same_site alike_there y w ≡ from_same_site alike x z
  site-kept x z y w h k = λ i.
      kept.sites x.access.site z.access.site y.access.site w.access.site h.access.site k.access.site i
      && beq (h.access.stores i) (k.access.stores i)

  -- they conflict under both
  conflict-kept : (x z : StepAccess L S) (y w : StepAccess M T) → IsRenamedStep r x y → IsRenamedStep r z w
      → conflicts same_there y.access w.access ≡ conflicts same x.access z.access
  conflict-kept x z y w h k = λ i.
      kept.units x.access.at z.access.at y.access.at w.access.at h.access.at k.access.at i && (h.access.stores i || k.access.stores i)

  -- one repeats the other under both
  repeat-kept : (x z : StepAccess L S) (y w : StepAccess M T) → IsRenamedStep r x y → IsRenamedStep r z w
      → is_repeated same_there alike_there y w ≡ is_repeated same alike x z
  repeat-kept x z y w h k = λ i. nat_eq (h.process i) (k.process i) && site-kept x z y w h k i

  -- an earlier access races with a later one under both
  racing-kept : (c : Clock) (x z : StepAccess L S) (y w : StepAccess M T) → IsRenamedStep r x y → IsRenamedStep r z w
      → is_racing_by_clock same_there alike_there c y w ≡ is_racing_by_clock same alike c x z
  racing-kept c x z y w h k = λ i.
      not (nat_eq (k.process i) (h.process i)) && (conflict-kept z x w y k h i && not (nat_le (suc (k.step i)) (c (k.process i))))

  -- ---- rows

  -- it is the row of two accesses under both names
  row-kept : (d z : StepAccess L S) (e w : StepAccess M T) (v : Row L S) (u : Row M T) → IsRenamedStep r d e → IsRenamedStep r z w
      → IsRenamedRow r v u → is_row_of alike_there e w u ≡ is_row_of alike d z v
  row-kept d z e w v u h k m = λ i.
      (site-kept d v.first e u.first h m.first i && site-kept z v.second w u.second k m.second i)
      || (site-kept d v.second e u.second h m.second i && site-kept z v.first w u.first k m.first i)

  -- the rows with one pair more
  pair-kept : (d z : StepAccess L S) (e w : StepAccess M T) → IsRenamedStep r d e → IsRenamedStep r z w
      → (vs : List (Row L S)) (us : List (Row M T)) → AllZip (IsRenamedRow r) vs us
      → AllZip (IsRenamedRow r) (with_pair alike d z vs) (with_pair alike_there e w us)
  pair-kept d z e w h k [] [] m = (record { first = h; second = k; times = refl }, m)
  pair-kept d z e w h k [] (u ∷ us) m = absurd m
  pair-kept d z e w h k (v ∷ vs) [] m = absurd m
  pair-kept d z e w h k (v ∷ vs) (u ∷ us) m =
      by (is_row_of alike d z v) (is_row_of alike_there e w u) (row-kept d z e w v u h k m.0) (pair-kept d z e w h k vs us m.1)
    where
      by : (b c : Bool) → c ≡ b → AllZip (IsRenamedRow r) (with_pair alike d z vs) (with_pair alike_there e w us)
          → AllZip (IsRenamedRow r) (cond b (record v { times = v.times + 1 } ∷ vs) (v ∷ with_pair alike d z vs))
          (cond c (record u { times = u.times + 1 } ∷ us) (u ∷ with_pair alike_there e w us))
      by true true t rest =
          (record { first = m.0.first; second = m.0.second; times = ap (λ n. n + 1) m.0.times }, m.1)
      by true false t rest = cc
      by false true t rest = cc
      by false false t rest = (m.0, rest)

  -- and with several
  pairs-kept : (z : StepAccess L S) (w : StepAccess M T) → IsRenamedStep r z w → (ds : List (StepAccess L S)) (es : List (StepAccess M T))
      → AllZip (IsRenamedStep r) ds es → (vs : List (Row L S)) (us : List (Row M T)) → AllZip (IsRenamedRow r) vs us
      → AllZip (IsRenamedRow r) (with_pairs alike z ds vs) (with_pairs alike_there w es us)
  pairs-kept z w k [] [] h vs us m = m
  pairs-kept z w k [] (e ∷ es) h vs us m = absurd h
  pairs-kept z w k (d ∷ ds) [] h vs us m = absurd h
  pairs-kept z w k (d ∷ ds) (e ∷ es) h vs us m =
      pairs-kept z w k ds es h.1 (with_pair alike d z vs) (with_pair alike_there e w us) (pair-kept d z e w h.0 k vs us m)

  -- ---- the detector

  -- the same clocks, at the names that events may need
  pub record AreRenamedClocks (x : Clocks L) (y : Clocks M) : Type 0 where
    pub process : y.of_process ≡ x.of_process
    pub unit : (at : L) (u : M) → r.needed at u → y.of_location u ≡ x.of_location at

  -- the same latest accesses
  abbrev pub AreRenamedTables : Table L S → Table M T → Type 0
  AreRenamedTables t s = (at : L) (u : M) → r.unit at u → AllZip (IsRenamedStep r) (t at) (s u)

  -- the same state of the detector
  pub record IsRenamedDetector (x : Detector L S) (y : Detector M T) : Type 0 where
    pub clocks : AreRenamedClocks x.clocks y.clocks
    pub table : AreRenamedTables x.table y.table
    pub rows : AllZip (IsRenamedRow r) x.rows y.rows

  -- the clock before a step
  before-kept : (x : Clocks L) (y : Clocks M) → AreRenamedClocks x y → (d : Event L S) (e : Event M T) → IsRenamedEvent r d e
      → clock_before y e ≡ clock_before x d
  before-kept x y h d e k = λ i. joined (h.process i (k.process i)) (need d.needs e.needs k.needs i)
    where
      need : (a : Option L) (b : Option M) → IsRenamedNeed r a b → clock_of_need y b ≡ clock_of_need x a
      need None None m = refl
      need None (Some u) m = absurd m
      need (Some at) None m = absurd m
      need (Some at) (Some u) m = h.unit at u m

  -- the clocks after a step
  clocks-kept : (n : ℕ) (x : Clocks L) (y : Clocks M) → AreRenamedClocks x y → (d : Event L S) (e : Event M T) → IsRenamedEvent r d e
      → AreRenamedClocks (clocks_after n x d) (clocks_after n y e)
  clocks-kept n x y h d e k =
      record {
        process = λ i p. if (nat_eq (k.process i) p || is_made (k.makes i) p) then joined (clock i) (h.process i p) else h.process i p;
        unit = λ at u m i. if k.changes at u m i then clock i else h.unit at u m i;
      }
    where
      clock : ticked n e.process (clock_before y e) ≡ ticked n d.process (clock_before x d)
      clock = λ i. ticked n (k.process i) (before-kept x y h d e k i)

  -- the table after an access
  table-kept : (z : StepAccess L S) (w : StepAccess M T) → IsRenamedStep r z w → (t : Table L S) (s : Table M T) → AreRenamedTables t s
      → AreRenamedTables (with_access same alike z t) (with_access same_there alike_there w s)
  table-kept z w k t s h at u m =
      by (same z.access.at at) (same_there w.access.at u) (kept.units z.access.at at w.access.at u k.access.at m)
    where
      by : (b c : Bool) → c ≡ b
          → AllZip (IsRenamedStep r) (if b then z ∷ filter (λ d. not (is_repeated same alike z d)) (t at) else t at)
          (if c then w ∷ filter (λ e. not (is_repeated same_there alike_there w e)) (s u) else s u)
      by true true e = (
        k,
        filter-zipped (IsRenamedStep r) (λ d. not (is_repeated same alike z d)) (λ e. not (is_repeated same_there alike_there w e))
            (λ d e g. ap not (repeat-kept z d w e k g)) (t at) (s u) (h at u m),
      )
      by true false e = cc
      by false true e = cc
      by false false e = h at u m

  -- the races of an access
  races-kept : (c : Clock) (z : StepAccess L S) (w : StepAccess M T) → IsRenamedStep r z w → (ds : List (StepAccess L S))
      (es : List (StepAccess M T)) → AllZip (IsRenamedStep r) ds es
      → AllZip (IsRenamedStep r) (racing_by_clock same alike c z ds) (racing_by_clock same_there alike_there c w es)
  races-kept c z w k ds es h =
      firsts-zipped (IsRenamedStep r) (from_same_site alike) (from_same_site alike_there) site-kept
      (filter (is_racing_by_clock same alike c z) ds) (filter (is_racing_by_clock same_there alike_there c w) es) (
      filter-zipped (IsRenamedStep r) (is_racing_by_clock same alike c z) (is_racing_by_clock same_there alike_there c w)
      (λ d e g. racing-kept c z d w e k g) ds es h)

  -- the accesses of a step
  accesses-kept : (c : Clock) (n p : ℕ) (ms : List (Access L S)) (ns : List (Access M T)) → AllZip (IsRenamedAccess r) ms ns
      → (x : Detector L S) (y : Detector M T) → IsRenamedDetector x y
      → IsRenamedDetector (detector_after_accesses same alike c n p ms x) (detector_after_accesses same_there alike_there c n p ns y)
  accesses-kept c n p [] [] h x y k = k
  accesses-kept c n p [] (b ∷ ns) h x y k = absurd h
  accesses-kept c n p (a ∷ ms) [] h x y k = absurd h
  accesses-kept c n p (a ∷ ms) (b ∷ ns) h x y k =
      let z : StepAccess L S = record { step = n; process = p; access = a } in
      let w : StepAccess M T = record { step = n; process = p; access = b } in
      let m : IsRenamedStep r z w = record { step = refl; process = refl; access = h.0 } in
      accesses-kept c n p ms ns h.1 _ _ (
      record {
        clocks = k.clocks;
        table = table-kept z w m x.table y.table k.table;
        rows =
            pairs-kept z w m (racing_by_clock same alike c z (x.table a.at)) (racing_by_clock same_there alike_there c w (y.table b.at)) (
            races-kept c z w m (x.table a.at) (y.table b.at) (k.table a.at b.at h.0.at)) x.rows y.rows k.rows;
      })

  -- a step
  step-kept : (n : ℕ) (x : Detector L S) (y : Detector M T) → IsRenamedDetector x y → (d : Event L S) (e : Event M T) → IsRenamedEvent r d e
      → IsRenamedDetector (detector_after same alike n x d) (detector_after same_there alike_there n y e)
  step-kept n x y h d e k =
      subst2 (before-kept x.clocks y.clocks h.clocks d e k) k.process (
      accesses-kept (clock_before x.clocks d) n d.process d.accesses e.accesses k.accesses _ _ (
      record { clocks = clocks-kept n x.clocks y.clocks h.clocks d e k; table = h.table; rows = h.rows }))
    where
      subst2 : {b c : Clock} {p q : ℕ} → b ≡ c → p ≡ q
          → IsRenamedDetector (detector_after same alike n x d)
          (detector_after_accesses same_there alike_there c n q e.accesses (record y { clocks = clocks_after n y.clocks e }))
          → IsRenamedDetector (detector_after same alike n x d)
          (detector_after_accesses same_there alike_there b n p e.accesses (record y { clocks = clocks_after n y.clocks e }))
      subst2 s t m =
          subst (λ (v : Clock × ℕ).
          IsRenamedDetector (detector_after same alike n x d)
          (detector_after_accesses same_there alike_there v.0 n v.1 e.accesses (record y { clocks = clocks_after n y.clocks e }))) (
          λ i. (sym s i, sym t i)) m

  -- a run
  run-kept : (n : ℕ) (x : Detector L S) (y : Detector M T) → IsRenamedDetector x y → (ds : List (Event L S)) (es : List (Event M T))
      → AllZip (IsRenamedEvent r) ds es → IsRenamedDetector (detector_from same alike n x ds) (detector_from same_there alike_there n y es)
  unfolding detector_from
  run-kept n x y h [] [] k = h
  run-kept n x y h [] (e ∷ es) k = absurd k
  run-kept n x y h (d ∷ ds) [] k = absurd k
  run-kept n x y h (d ∷ ds) (e ∷ es) k =
      run-kept (suc n) (detector_after same alike n x d) (detector_after same_there alike_there n y e) (step-kept n x y h d e k.0) ds es k.1

  -- the rows of a run go along with other names of its storage units and sites
  pub rows-renamed : (n : ℕ) (ds : List (Event L S)) (es : List (Event M T)) → AllZip (IsRenamedEvent r) ds es
      → AllZip (IsRenamedRow r) (rows_from same alike n ds) (rows_from same_there alike_there n es)
  rows-renamed n ds es k =
      (
      run-kept n (record { clocks = zero_clocks; table = λ at. []; rows = [] }) (
      record { clocks = zero_clocks; table = λ at. []; rows = [] }) (
      record { clocks = record { process = refl; unit = λ at u m. refl }; table = λ at u m. tt; rows = tt }) ds es k).rows
