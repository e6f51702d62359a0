-- No two rows are of the same sites.
use Rattle.std.proofs.Common.{◌≡◌, ℕ, suc, ◌+◌, Bool, true, false, List, [], ◌∷◌, refl, ◌∙◌, if◌then◌else◌}
use Rattle.std.specs.Cmp.{IsEquivalence}
use Rattle.std.specs.List.{AllByRecursion, IsDistinct}
use Rattle.hep_accesses.specs.Events.{Access, Event}
use Rattle.hep_accesses.specs.Pairs.{Pairs, pairs_after, pairs_after_accesses, pairs_from, racing_with, rows_by_pairs}
use Rattle.hep_accesses.specs.Pasts.{Steps, before_step, empty_past, past_after}
use Rattle.hep_accesses.specs.Races.{Row, StepAccess, is_row_of, of_same_sites, with_pair, with_pairs}
use Rattle.hep_accesses.proofs.Sites.{row-swapped}

module _ {L S : Type 0} (same : L → L → Bool) (alike : S → S → Bool) (laws : IsEquivalence alike) where
  -- no two rows are of the same sites
  abbrev AreDistinct : List (Row L S) → Type 0
  AreDistinct rows = IsDistinct (of_same_sites alike) rows

  -- no row is of the sites of this one
  abbrev IsOther : Row L S → List (Row L S) → Type 0
  IsOther r rows = AllByRecursion (λ w. of_same_sites alike r w ≡ false) rows

  -- a row of other sites stays one, where a pair is added that isn't of its sites
  others-more : (d y : StepAccess L S) (r : Row L S) (rs : List (Row L S)) → is_row_of alike d y r ≡ false → IsOther r rs
      → IsOther r (with_pair alike d y rs)
  others-more d y r [] e h = (row-swapped alike laws d y 1 r ∙ e, tt)
  others-more d y r (w ∷ ws) e h = by (is_row_of alike d y w) (others-more d y r ws e h.1)
    where
      by : (b : Bool) → IsOther r (with_pair alike d y ws)
          → IsOther r (if b then record w { times = w.times + 1 } ∷ ws else w ∷ with_pair alike d y ws)
      by true k = (h.0, h.1)
      by false k = (h.0, k)

  -- a pair leaves the rows distinct
  pair-distinct : (d y : StepAccess L S) (rows : List (Row L S)) → AreDistinct rows → AreDistinct (with_pair alike d y rows)
  unfolding IsDistinct
  pair-distinct d y [] h = (tt, tt)
  pair-distinct d y (r ∷ rs) h = by (is_row_of alike d y r) refl (pair-distinct d y rs h.1)
    where
      by : (b : Bool) → is_row_of alike d y r ≡ b → AreDistinct (with_pair alike d y rs)
          → AreDistinct (if b then record r { times = r.times + 1 } ∷ rs else r ∷ with_pair alike d y rs)
      by true e k = (h.0, h.1)
      by false e k = (others-more d y r rs e h.0, k)

  -- so do several
  pairs-distinct : (y : StepAccess L S) (ds : List (StepAccess L S)) (rows : List (Row L S)) → AreDistinct rows
      → AreDistinct (with_pairs alike y ds rows)
  pairs-distinct y [] rows h = h
  pairs-distinct y (d ∷ ds) rows h = pairs-distinct y ds (with_pair alike d y rows) (pair-distinct d y rows h)

  -- so do the accesses of a step
  accesses-distinct : (before : Steps) (n p : ℕ) (left : List (Access L S)) (x : Pairs L S) → AreDistinct x.rows
      → AreDistinct (pairs_after_accesses same alike before n p left x).rows
  accesses-distinct before n p [] x h = h
  accesses-distinct before n p (a ∷ left) x h =
      let y : StepAccess L S = record { step = n; process = p; access = a } in
      accesses-distinct before n p left _ (pairs-distinct y (racing_with same alike before y x.earlier) x.rows h)

  -- so do the steps of a run
  run-distinct : (n : ℕ) (x : Pairs L S) (es : List (Event L S)) → AreDistinct x.rows → AreDistinct (pairs_from same alike n x es).rows
  unfolding pairs_from
  run-distinct n x [] h = h
  run-distinct n x (e ∷ es) h =
      run-distinct (suc n) (pairs_after same alike n x e) es (
      accesses-distinct (before_step x.past e) n e.process e.accesses (record x { past = past_after n x.past e }) h)

  -- the rows of a run are distinct
  pub rows-distinct : (es : List (Event L S)) → AreDistinct (rows_by_pairs same alike es)
  unfolding IsDistinct
  rows-distinct es = run-distinct 0 (record { past = empty_past; earlier = []; rows = [] }) es tt
