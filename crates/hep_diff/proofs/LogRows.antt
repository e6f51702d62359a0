-- Rows of steps, one for each process.
use Rattle.std.proofs.Common.{◌≡◌, ◌<◌, ℕ, zero, suc, Bool, true, false, List, [], ◌∷◌, ◌++◌, length, Some, refl, sym, ap, ◌∙◌, arith, nat_eq, if◌then◌else◌, append-nil, slice_set}
use Rattle.std.proofs.lemmas.Bool.Decides.{nat_tests}
use Rattle.std.specs.Global.{Vec}
use Rattle.hep_arena.proofs.Lists.{get-set_other, get-set_same}
use Rattle.hep_diff.specs.ProcessSteps.{of_process}
use Rattle.hep_diff.specs.declared.process_step.ProcessStep.{ProcessStep}
use Rattle.hep_diff.specs.StepLogs.{items_of, kept_of}

-- an empty row more
pub kept_empty : (rows : List (Vec ProcessStep)) (row : Vec ProcessStep) (q : ℕ) → row.items ≡ []
    → kept_of (rows ++ row ∷ []) q ≡ kept_of rows q
kept_empty [] row zero e = e
kept_empty [] row (suc q) e = refl
kept_empty (r ∷ rows) row zero e = refl
kept_empty (r ∷ rows) row (suc q) e = kept_empty rows row q e

-- a step more in the row of process p
pub noted : (rows old : List (Vec ProcessStep)) (p : ℕ) (row now : Vec ProcessStep) (d : ProcessStep) → p < length rows
    → ((q : ℕ) → kept_of rows q ≡ kept_of old q) → kept_of rows p ≡ row.items
    → now.items ≡ row.items ++ d ∷ [] → (q : ℕ) → kept_of (slice_set rows p now) q ≡ kept_of old q ++ of_process q p (Some d)
noted rows old p row now d less same here more q = by (nat_eq q p) refl where
  by : (t : Bool) → nat_eq q p ≡ t → kept_of (slice_set rows p now) q ≡ kept_of old q ++ (if t then d ∷ [] else [])
  by true e =
      let is : q ≡ p = grind (arith, nat_tests, e) in
      ap (kept_of (slice_set rows p now)) is ∙ ap items_of (get-set_same rows p now less) ∙ more
      ∙ ap (λ xs. xs ++ d ∷ []) (sym here ∙ same p ∙ ap (kept_of old) (sym is))
  by false e =
      let other : q ≡ p → ⊥ = λ is. grind (arith, nat_tests, e, is) in
      ap items_of (get-set_other rows p q now other) ∙ same q ∙ sym (append-nil (kept_of old q))
