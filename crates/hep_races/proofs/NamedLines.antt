-- Rows of races with other names for storage units and sites have the same lines, where these names stand for the same words.
use Rattle.std.proofs.Common.{◌≡◌, ℕ, List, [], ◌∷◌, ◌++◌, refl, ap, ◌∙◌}
use Rattle.std.specs.List.{AllZip, flat_map}
use Rattle.hep_accesses.specs.Races.{Row, StepAccess}
use Rattle.hep_races.specs.Renamings.{IsRenamedRow, IsRenamedStep, Renaming}
use Rattle.hep_races.specs.RaceLines.{RowWords, SiteWords, access_text, deed_text, others_text, race_text, row_text, rows_text}
use Rattle.hep_races.specs.RaceLines.{source_text, where_text}

module _ {L M S T : Type 0} (r : Renaming L M S T) (w : RowWords L S) (v : RowWords M T)
    (places : (at : L) (name : M) → r.unit at name → v.place name ≡ w.place at) (sites : (a : S) (n : T) → r.site a n → v.site n ≡ w.site a)
    (entries : (n : ℕ) → v.entry n ≡ w.entry n) (sources : (n : ℕ) → v.source n ≡ w.source n) where
  access-same : (d : StepAccess L S) (a : StepAccess M T) → IsRenamedStep r d a → access_text v a ≡ access_text w d
  access-same d a h =
      let site : v.site a.access.site ≡ w.site d.access.site = sites d.access.site a.access.site h.access.site in
      let entry : v.entry a.step ≡ w.entry d.step = ap v.entry h.step ∙ entries d.step in
      λ i. deed_text (site i) (h.access.stores i) (h.process i) ++ where_text (site i) (entry i)

  source-same : (d : StepAccess L S) (a : StepAccess M T) → IsRenamedStep r d a → source_text v a ≡ source_text w d
  source-same d a h =
      ap (λ (s : SiteWords). v.source s.line) (sites d.access.site a.access.site h.access.site) ∙ sources (w.site d.access.site).line

  row-same : (z : Row L S) (q : Row M T) → IsRenamedRow r z q → row_text v q ≡ row_text w z
  row-same z q h =
      λ i. race_text (places z.second.access.at q.second.access.at h.second.access.at i) (access-same z.first q.first h.first i)
      (access-same z.second q.second h.second i) (h.times i)
      ++ source-same z.first q.first h.first i ++ source-same z.second q.second h.second i

  all-same : (rs : List (Row L S)) (qs : List (Row M T)) → AllZip (IsRenamedRow r) rs qs
      → flat_map (row_text v) qs ≡ flat_map (row_text w) rs
  all-same [] [] h = refl
  all-same (z ∷ rs) (q ∷ qs) h = λ i. row-same z q h.0 i ++ all-same rs qs h.1 i
  all-same [] (q ∷ qs) h = absurd h
  all-same (z ∷ rs) [] h = absurd h

  pub lines-same : (rs : List (Row L S)) (qs : List (Row M T)) → AllZip (IsRenamedRow r) rs qs → rows_text v qs ≡ rows_text w rs
  lines-same rs qs h = ap (λ text. text ++ others_text) (all-same rs qs h)
