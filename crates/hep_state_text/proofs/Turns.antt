-- One turn of the loops over bounds and over cells.
use Rattle.std.proofs.Common.{◌≡◌, ℕ, zero, suc, ◌+◌, ◌≤◌, ◌<◌, ◌+ℤ◌, pos, Bool, true, false, List, [], ◌∷◌, ◌++◌, drop, length, Option, refl, sym, ap, ◌∙◌, append_assoc, arith, get_or, if◌then◌else◌, nat_lt}
use Rattle.std.specs.Fmt.{signed_decimal}
use Rattle.std.proofs.lemmas.Bool.{and_parts}
use Rattle.std.proofs.lemmas.Bool.Decides.{nat_tests}
use Rattle.std.proofs.lemmas.List.{drop_more}
use Rattle.hep_machine.specs.Words.{Bounds, are_dimensions, extent, is_between}
use Rattle.hep_machine.specs.declared.shape.Bound.{Bound}
use Rattle.hep_machine.specs.declared.slot.Slot.{Slot}
use Rattle.hep_state_text.specs.Subscripts.{comma, index_in, steps_behind, subscripts_text}
use Rattle.hep_state_text.specs.Contents.{ends_run, run_text, runs_text}

-- ---- bounds

pub dimensions-here : (bounds : Bounds) (i : ℕ) (d : Bound) → i < length bounds → are_dimensions (drop i bounds) ≡ true
    → (is_between (get_or bounds i d).lower (get_or bounds i d).upper (drop (i + 1) bounds) ≡ true) × (are_dimensions (drop (i + 1) bounds) ≡ true)
dimensions-here bounds i d less h =
    let b = get_or bounds i d in
    let rest = drop (i + 1) bounds in
    and_parts (is_between b.lower b.upper rest) (are_dimensions rest) (ap are_dimensions (sym (drop_more bounds i d less)) ∙ h)

pub subscripts-turn : (bounds : Bounds) (i : ℕ) (d : Bound) (follows : Bool) (n index steps : ℕ) (size : Option ℕ) (old new whole : List ℕ) → i < length bounds
    → size ≡ extent (get_or bounds i d) → index ≡ index_in size n → steps ≡ steps_behind size n → new ≡ old ++ (comma follows ++ signed_decimal ((get_or bounds i d).lower +ℤ pos index))
    → old ++ subscripts_text follows (drop i bounds) n ≡ whole → new ++ subscripts_text true (drop (i + 1) bounds) steps ≡ whole
subscripts-turn bounds i d follows n index steps size old new whole less sized at behind grown so_far =
    let b = get_or bounds i d in
    let rest = drop (i + 1) bounds in
    let own : ℕ → List ℕ = λ k. comma follows ++ signed_decimal (b.lower +ℤ pos k) in
    ap (λ xs. xs ++ subscripts_text true rest steps) grown
    ∙ append_assoc old (own index) (subscripts_text true rest steps)
    ∙ ap (λ k. old ++ (own k ++ subscripts_text true rest steps)) (at ∙ ap (λ o. index_in o n) sized)
    ∙ ap (λ k. old ++ (own (index_in (extent b) n) ++ subscripts_text true rest k)) (behind ∙ ap (λ o. steps_behind o n) sized)
    ∙ ap (λ bs. old ++ subscripts_text follows bs n) (sym (drop_more bounds i d less))
    ∙ so_far

-- ---- cells

pub past : (m n : ℕ) → nat_lt m n ≡ false → n ≤ m
past m n h = grind (arith, nat_tests)

pub ends-last : (slots : List Slot) (i : ℕ) → i < length slots → length slots ≤ i + 1 → ends_run (drop i slots) ≡ true
ends-last [] i less most = absurd (omega (arith, less))
ends-last (s ∷ []) zero less most = refl
ends-last (s ∷ t ∷ ss) zero less most = absurd (omega (arith, most))
ends-last (s ∷ ss) (suc i) less most = ends-last ss i (omega (arith, less)) (omega (arith, most))

module _ (name : List ℕ) (asynchronous : Bool) (bounds : Bounds) (slots : List Slot) (i : ℕ) (d : Slot) (first : ℕ) (less : i < length slots) where
  abbrev rest : List Slot
  rest = drop (i + 1) slots

  abbrev next : suc i ≡ i + 1
  next = omega arith

  -- a run ends here
  pub run-ends : (old new whole : List ℕ) → ends_run (drop i slots) ≡ true → new ≡ old ++ run_text name asynchronous bounds first i (get_or slots i d)
      → old ++ runs_text name asynchronous bounds first i (drop i slots) ≡ whole → new ++ runs_text name asynchronous bounds (i + 1) (i + 1) rest ≡ whole
  run-ends old new whole ends grown so_far =
      let s = get_or slots i d in
      let line = run_text name asynchronous bounds first i s in
      ap (λ xs. xs ++ runs_text name asynchronous bounds (i + 1) (i + 1) rest) grown
      ∙ append_assoc old line (runs_text name asynchronous bounds (i + 1) (i + 1) rest)
      ∙ ap (λ k. old ++ (line ++ runs_text name asynchronous bounds k k rest)) (sym next)
      ∙ ap (λ b. old ++ (if b then line ++ runs_text name asynchronous bounds (suc i) (suc i) rest else runs_text name asynchronous bounds first (suc i) rest)) (sym (ap ends_run (sym (drop_more slots i d less)) ∙ ends))
      ∙ ap (λ ss. old ++ runs_text name asynchronous bounds first i ss) (sym (drop_more slots i d less))
      ∙ so_far

  -- or goes on
  pub run-goes_on : (old whole : List ℕ) → ends_run (drop i slots) ≡ false
      → old ++ runs_text name asynchronous bounds first i (drop i slots) ≡ whole → old ++ runs_text name asynchronous bounds first (i + 1) rest ≡ whole
  run-goes_on old whole goes_on so_far =
      let s = get_or slots i d in
      let line = run_text name asynchronous bounds first i s in
      ap (λ k. old ++ runs_text name asynchronous bounds first k rest) (sym next)
      ∙ ap (λ b. old ++ (if b then line ++ runs_text name asynchronous bounds (suc i) (suc i) rest else runs_text name asynchronous bounds first (suc i) rest)) (sym (ap ends_run (sym (drop_more slots i d less)) ∙ goes_on))
      ∙ ap (λ ss. old ++ runs_text name asynchronous bounds first i ss) (sym (drop_more slots i d less))
      ∙ so_far
