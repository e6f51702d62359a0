-- A reordering of a run leads to the same state, and of a run without races keeps the conflicts.
use Rattle.std.proofs.Common.{◌≡◌, inl, inr, ◌⊎◌, ◌≢◌, ℕ, zero, suc, ◌+◌, ◌<◌, ◌≤◌, Bool, nat_eq, List, [], ◌∷◌, length, Option, Some, None}
use Rattle.std.proofs.Common.{refl, sym, ap, ◌∙◌, subst, arith, slice_get}
use Rattle.std.proofs.lemmas.Bool.{cases_eq, cases_lt, eq-eqb, or_left}
use Rattle.std.proofs.lemmas.Option.{none-some, same_Some, slice_get_within}
use Rattle.std.specs.Cmp.{IsEquivalence}
use Rattle.std.specs.List.{AllByRecursion, Contains, range_with_len}
use Rattle.std.specs.Option.{option_and_then}
use Rattle.hep_accesses.specs.Events.{Event, is_made}
use Rattle.hep_accesses.specs.HappensBefore.{IsBefore, IsDirectlyBefore, directly, transitively}
use Rattle.hep_accesses.specs.Pairs.{rows_by_pairs}
use Rattle.hep_accesses.specs.Races.{HasRow, Row}
use Rattle.hep_accesses.specs.Reorderings.{HaveConflict, IsReordering, IsTaken, NeighboursCommute, final_state, finished, first, further}
use Rattle.hep_accesses.specs.Reorderings.{steps_of, taking}
use Rattle.hep_accesses.proofs.Elements.{IsAmong, all-among, all-mapped, among-contains, among-none, behind, here}
use Rattle.hep_accesses.proofs.RowsAreRaces.{rows-complete}

-- ---- runs of any machine

module _ {S X : Type 0} (step : X → S → Option S) (Keeps : X → X → Type 0) (commute : NeighboursCommute step Keeps) where
  -- two neighbours that can be exchanged, with those that follow
  exchanged : (x y : X) (rest : List X) (s t : S) → (Keeps y x → ⊥) → (u : S) → step y s ≡ Some u → final_state step (x ∷ rest) u ≡ Some t
      → final_state step (x ∷ y ∷ rest) s ≡ Some t
  exchanged x y rest s t free u e = by (step x u) refl
    where
      follow : (v : S) → final_state step (x ∷ y ∷ []) s ≡ Some v → final_state step rest v ≡ Some t
          → final_state step (x ∷ y ∷ rest) s ≡ Some t
      follow v g h = one (step x s) refl g
        where
          two : (w : S) (o : Option S) → step y w ≡ o → option_and_then (final_state step []) o ≡ Some v
              → option_and_then (final_state step rest) o ≡ Some t
          two w None f k = absurd (none-some v k)
          two w (Some z) f k = subst (λ (a : S). final_state step rest a ≡ Some t) (sym (same_Some z v k)) h

          one : (o : Option S) → step x s ≡ o → option_and_then (final_state step (y ∷ [])) o ≡ Some v
              → option_and_then (final_state step (y ∷ rest)) o ≡ Some t
          one None f k = absurd (none-some v k)
          one (Some w) f k = two w (step y w) refl k

      by : (o : Option S) → step x u ≡ o → option_and_then (final_state step rest) o ≡ Some t → final_state step (x ∷ y ∷ rest) s ≡ Some t
      by None f g = absurd (none-some t g)
      by (Some v) f g =
          follow v (commute x y s v free
          (ap (option_and_then (final_state step (x ∷ []))) e ∙ ap (option_and_then (final_state step [])) f)) g

  -- what is taken can come first
  in-front : {x : X} {xs ys : List X} (s : S) {t : S} → IsTaken Keeps x xs ys → final_state step xs s ≡ Some t
      → final_state step (x ∷ ys) s ≡ Some t
  in-front s first h = h
  in-front {x} s {t = t} (further {y = y} {xs = xs} {ys = ys} free taken) h = by (λ u g. in-front u taken g) (step y s) refl h
    where
      by : ((u : S) → final_state step xs u ≡ Some t → final_state step (x ∷ ys) u ≡ Some t) → (o : Option S) → step y s ≡ o
          → option_and_then (final_state step xs) o ≡ Some t → final_state step (x ∷ y ∷ ys) s ≡ Some t
      by rest None e g = absurd (none-some t g)
      by rest (Some u) e g = exchanged x y ys s t free u e (rest u g)

  -- each reordering leads to the same state
  pub reordered : {xs ys : List X} (s : S) {t : S} → IsReordering Keeps xs ys → final_state step xs s ≡ Some t
      → final_state step ys s ≡ Some t
  reordered s finished h = h
  reordered s {t = t} (taking {x = x} {ys = ys} {zs = zs} taken more) h =
      by (λ u g. reordered u more g) (step x s) (in-front s taken h)
    where
      by : ((u : S) → final_state step ys u ≡ Some t → final_state step zs u ≡ Some t) → (o : Option S)
          → option_and_then (final_state step ys) o ≡ Some t → option_and_then (final_state step zs) o ≡ Some t
      by rest None g = absurd (none-some t g)
      by rest (Some u) g = rest u g

-- ---- numbers of steps

-- each number is above those in front of it
abbrev IsRising : List ℕ → Type 0
IsRising [] = Unit {0}
IsRising (x ∷ xs) = AllByRecursion (λ y. x < y) xs × IsRising xs

-- the numbers of a range are not below its beginning
range-above : (a n : ℕ) → AllByRecursion (λ y. a ≤ y) (range_with_len a n)
range-above a zero = tt
range-above a (suc n) =
    (omega arith, all-mapped (λ y. a + 1 ≤ y) (λ y. a ≤ y) (λ y k. omega arith) (range_with_len (a + 1) n) (range-above (a + 1) n))

-- the numbers of a range rise
range-rising : (a n : ℕ) → IsRising (range_with_len a n)
range-rising a zero = tt
range-rising a (suc n) = (
  all-mapped (λ y. a + 1 ≤ y) (λ y. a < y) (λ y k. omega arith) (range_with_len (a + 1) n) (range-above (a + 1) n),
  range-rising
      (a + 1) n,
)

-- and all numbers from there on are in it
range-among : (a n i : ℕ) → a ≤ i → i < a + n → IsAmong i (range_with_len a n)
range-among a zero i low high = absurd (omega arith)
range-among a (suc n) i low high = by (λ k. range-among (a + 1) n i (omega (arith, k)) (omega arith)) (cases_lt a i)
  where
    by : (a < i → IsAmong i (range_with_len (a + 1) n)) → (a < i) ⊎ (i ≤ a) → IsAmong i (a ∷ range_with_len (a + 1) n)
    by rest (inl k) = behind (rest k)
    by rest (inr k) = let e : a ≡ i = omega arith in subst (λ (j : ℕ). IsAmong j (a ∷ range_with_len (a + 1) n)) e here

-- ---- runs without races

module _ {L S : Type 0} (es : List (Event L S)) (Keeps : ℕ → ℕ → Type 0) (edges : (i j : ℕ) → IsDirectlyBefore es i j → Keeps i j) where
  -- a smaller number that is still there needn't stay before the one that is taken
  free-before : {x z : ℕ} {xs ys : List ℕ} → IsTaken Keeps x xs ys → IsRising xs → IsAmong z xs → z < x → Keeps z x → ⊥
  free-before first up here below = absurd (omega arith)
  free-before {x} {z} first up (behind h) below = absurd (omega (arith, all-among (λ y. x < y) up.0 h))
  free-before (further free taken) up here below = free
  free-before (further free taken) up (behind h) below = free-before taken up.1 h below

  -- what is after a step that is still there is still there
  abbrev IsClosed : List ℕ → Type 0
  IsClosed xs = (i j : ℕ) → IsBefore es i j → IsAmong i xs → IsAmong j xs

  -- no step that is still there is before the one that is taken
  none-before : {x : ℕ} {xs ys : List ℕ} → IsTaken Keeps x xs ys → IsRising xs → IsClosed xs → (y : ℕ) → IsAmong y xs → IsBefore es y x → ⊥
  none-before {x} taken up closed y there (directly d) = free-before taken up there d.earlier (edges y x d)
  none-before {x} taken up closed y there (transitively {j = z} b d) =
      free-before taken up (closed y z b there) d.earlier (edges z x d)

  -- the others are still there
  among-left : {x : ℕ} {xs ys : List ℕ} → IsTaken Keeps x xs ys → (j : ℕ) → IsAmong j xs → j ≢ x → IsAmong j ys
  among-left first j here d = absurd (d refl)
  among-left first j (behind h) d = h
  among-left (further free taken) j here d = here
  among-left (further free taken) j (behind h) d = behind (among-left taken j h d)

  -- and were there
  among-before : {x : ℕ} {xs ys : List ℕ} → IsTaken Keeps x xs ys → (j : ℕ) → IsAmong j ys → IsAmong j xs
  among-before first j h = behind h
  among-before (further free taken) j here = here
  among-before (further free taken) j (behind h) = behind (among-before taken j h)

  -- what is left is closed again
  closed-left : {x : ℕ} {xs ys : List ℕ} → IsTaken Keeps x xs ys → IsRising xs → IsClosed xs → IsClosed ys
  closed-left {x} taken up closed i j b there =
      among-left taken j (closed i j b (among-before taken i there)) (
      λ e. none-before taken up closed i (among-before taken i there) (subst (IsBefore es i) e b))

  -- what holds of all holds of what is left
  all-left : (P : ℕ → Type 0) {x : ℕ} {xs ys : List ℕ} → IsTaken Keeps x xs ys → AllByRecursion P xs → AllByRecursion P ys
  all-left P first a = a.1
  all-left P (further free taken) a = (a.0, all-left P taken a.1)

  -- what is left rises again
  rising-left : {x : ℕ} {xs ys : List ℕ} → IsTaken Keeps x xs ys → IsRising xs → IsRising ys
  rising-left first up = up.1
  rising-left (further {y = y} free taken) up = (all-left (λ z. y < z) taken up.0, rising-left taken up.1)

  -- conflicts are ordered
  module _ (Conflicts : ℕ → ℕ → Type 0) (ordered : (i j : ℕ) → i < j → Conflicts i j → (IsBefore es i j → ⊥) → ⊥) where
    abbrev KeepsMore : ℕ → ℕ → Type 0
    KeepsMore i j = Keeps i j ⊎ Conflicts i j

    -- what is taken conflicts with nothing in front of it
    taken-more : {x : ℕ} {xs ys : List ℕ} → (all : List ℕ) → IsTaken Keeps x all ys → IsRising all → IsClosed all
        → ((z : ℕ) → IsAmong z xs → IsAmong z all) → (zs : List ℕ) → IsTaken Keeps x xs zs → IsRising xs → IsTaken KeepsMore x xs zs
    taken-more all whole up closed within zs first rising = first
    taken-more {x} all whole up closed within zs (further {y = y} free taken) rising =
        further neither (taken-more all whole up closed (λ z h. within z (behind h)) _ taken rising.1)
      where
        is_there : {xs ys : List ℕ} → IsTaken Keeps x xs ys → IsAmong x xs
        is_there first = here
        is_there (further f k) = behind (is_there k)

        neither : Keeps y x ⊎ Conflicts y x → ⊥
        neither (inl k) = free k
        neither (inr c) =
            ordered y x (all-among (λ z. y < z) rising.0 (is_there taken)) c (none-before whole up closed y (within y here))

    -- a reordering that keeps what is directly before keeps conflicts
    pub reordering-more : {xs ys : List ℕ} → IsRising xs → IsClosed xs → IsReordering Keeps xs ys → IsReordering KeepsMore xs ys
    reordering-more up closed finished = finished
    reordering-more {xs} up closed (taking taken more) =
        taking (taken-more xs taken up closed (λ z h. h) _ taken up) (
        reordering-more (rising-left taken up) (closed-left taken up closed) more)

module _ {L S : Type 0} (same : L → L → Bool) (alike : S → S → Bool) (laws : IsEquivalence alike) (es : List (Event L S))
    (none : rows_by_pairs same alike es ≡ []) where
  -- of a run without races conflicting steps are ordered
  conflicts-ordered : (i j : ℕ) → i < j → HaveConflict same es i j → (IsBefore es i j → ⊥) → ⊥
  conflicts-ordered i j below c unordered = by (cases_eq c.first.process c.second.process)
    where
      by : (c.first.process ≡ c.second.process) ⊎ ((c.first.process ≡ c.second.process) → ⊥) → ⊥
      by (inl e) =
          unordered (directly (record {
            first = c.is_first.event;
            second = c.is_second.event;
            first_is = subst (λ k. slice_get es k ≡ Some c.is_first.event) c.at_first c.is_first.is;
            second_is = subst (λ k. slice_get es k ≡ Some c.is_second.event) c.at_second c.is_second.is;
            earlier = below;
            why =
                inl (or_left (nat_eq c.is_first.event.process c.is_second.event.process)
                (is_made c.is_first.event.makes c.is_second.event.process) (
                eq-eqb c.is_first.event.process c.is_second.event.process (c.is_first.process ∙ e ∙ sym c.is_second.process)));
          }))
      by (inr d) =
          let row : HasRow alike c.first c.second (rows_by_pairs same alike es) =
          rows-complete same alike laws es c.first c.second (record {
            first = c.is_first;
            second = c.is_second;
            earlier = omega (arith, c.at_first, c.at_second);
            different = d;
            conflict = c.conflict;
            unordered = λ b. unordered (subst (λ (k : ℕ). IsBefore es k j) c.at_first (subst (IsBefore es c.first.step) c.at_second b));
          }) in
          among-none (among-contains [] (subst (λ (rs : List (Row L S)). Contains rs row.row) none row.listed))

  -- so it is of a run without races
  pub conflicts-kept : (Keeps : ℕ → ℕ → Type 0) (ys : List ℕ) → ((i j : ℕ) → IsDirectlyBefore es i j → Keeps i j)
      → IsReordering Keeps (steps_of es) ys → IsReordering (λ i j. Keeps i j ⊎ HaveConflict same es i j) (steps_of es) ys
  conflicts-kept Keeps ys edges r =
      reordering-more es Keeps edges (HaveConflict same es) conflicts-ordered (range-rising 0 (length es)) closed r
    where
      within : {i j : ℕ} → IsBefore es i j → j < length es
      within {j = j} (directly d) = slice_get_within es j d.second d.second_is
      within {j = j} (transitively b d) = slice_get_within es j d.second d.second_is

      closed : (i j : ℕ) → IsBefore es i j → IsAmong i (steps_of es) → IsAmong j (steps_of es)
      closed i j b k = range-among 0 (length es) j (omega arith) (omega (arith, within b))
