-- The rows under their sites, after two more accesses that race.
use Rattle.std.proofs.Common.{◌≡◌, Bool, true, false, cond, nat_eq, List, [], ◌∷◌, Option, Some, refl, ap, ◌∙◌, map}
use Rattle.std.proofs.lemmas.Bool.{true≢false, false≢true}
use Rattle.std.specs.Map.{lookup, values_of}
use Rattle.indexmap.specs.IndexMap.{insert_entry}
use Rattle.hep_accesses.specs.Races.{is_row_of, with_pair}
use Rattle.hep_races.specs.declared.event.StepAccess.{StepAccess}
use Rattle.hep_races.specs.declared.rows.Row.{Row}
use Rattle.hep_races.specs.declared.rows.SitePair.{SitePair}
use Rattle.hep_races.specs.Observed.{row_in, step_access_in}
use Rattle.hep_races.specs.RowTables.{AreUnderSites, next_row, pair_eq, pair_of}
use Rattle.hep_races.proofs.SitePairs.{pair-is_row}

module _ (d y : StepAccess) where
  -- the entries after they are counted
  abbrev pub counted : List (SitePair × Row) → List (SitePair × Row)
  counted es = insert_entry pair_eq es (pair_of d y) (next_row (lookup (pair_eq (pair_of d y)) es) d y)

  -- they are so where a row is put under the sites
  pub counted-by : (es after : List (SitePair × Row)) (sites : SitePair) (row : Row) (found : Option Row) → sites ≡ pair_of d y
      → found ≡ lookup (pair_eq sites) es → row ≡ next_row found d y → after ≡ insert_entry pair_eq es sites row → after ≡ counted es
  counted-by es after sites row found s f r e =
      let row_is : row ≡ next_row (lookup (pair_eq (pair_of d y)) es) d y =
      r ∙ ap (λ o. next_row o d y) (f ∙ ap (λ k. lookup (pair_eq k) es) s) in
      e ∙ (λ i. insert_entry pair_eq es (s i) (row_is i))

  -- each row is under its sites then
  pub under-counted : (es : List (SitePair × Row)) → AreUnderSites es → AreUnderSites (counted es)
  under-counted [] h = (refl, tt)
  under-counted (e ∷ es) h = by (pair_eq (pair_of d y) e.0) (under-counted es h.1)
    where
      by : (b : Bool) → AreUnderSites (counted es)
          → AreUnderSites (cond b ((e.0, next_row (cond b (Some e.1) (lookup (pair_eq (pair_of d y)) es)) d y) ∷ es)
          (e ∷ insert_entry pair_eq es (pair_of d y) (next_row (cond b (Some e.1) (lookup (pair_eq (pair_of d y)) es)) d y)))
      by true rest = h
      by false rest = (h.0, rest)

  -- and the rows are those with this pair
  pub rows-counted : (es : List (SitePair × Row)) → AreUnderSites es
      → map row_in (values_of (counted es)) ≡ with_pair nat_eq (step_access_in d) (step_access_in y) (map row_in (values_of es))
  rows-counted [] h = refl
  rows-counted (e ∷ es) h =
      by (pair_eq (pair_of d y) e.0) (is_row_of nat_eq (step_access_in d) (step_access_in y) (row_in e.1))
      (ap (pair_eq (pair_of d y)) h.0 ∙ pair-is_row d y e.1) (rows-counted es h.1)
    where
      by : (b c : Bool) → b ≡ c
          → map row_in (values_of (counted es)) ≡ with_pair nat_eq (step_access_in d) (step_access_in y) (map row_in (values_of es))
          → map row_in (values_of (cond b ((e.0, next_row (cond b (Some e.1) (lookup (pair_eq (pair_of d y)) es)) d y) ∷ es)
          (e ∷ insert_entry pair_eq es (pair_of d y) (next_row (cond b (Some e.1) (lookup (pair_eq (pair_of d y)) es)) d y))))
          ≡ cond c (row_in (next_row (Some e.1) d y) ∷ map row_in (values_of es))
          (row_in e.1 ∷ with_pair nat_eq (step_access_in d) (step_access_in y) (map row_in (values_of es)))
      by true true t rest = refl
      by true false t rest = absurd (true≢false t)
      by false true t rest = absurd (false≢true t)
      by false false t rest = ap (λ rs. row_in e.1 ∷ rs) rest
