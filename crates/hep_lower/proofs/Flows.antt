-- Where one goes on from a statement.
use Rattle.std.proofs.Common.{◌≡◌, ℕ, suc, ◌+◌, ◌≤◌, Bool, true, false, List, [], ◌∷◌, length, Option, Some, None, refl, ap, ◌∙◌, arith, if◌then◌else◌, slice_get}
use Rattle.std.specs.Option.{unwrap_or, option_map}
use Rattle.std.proofs.lemmas.List.{drop_all}
use Rattle.std.proofs.lemmas.Option.{slice_get_past}
use Rattle.hep_machine.specs.Words.{Name, Statement, index_where, Units, passed_over, executable_from, statement_at, is_named, subroutine_name, following, terminal_of, terminal_by_form, index_of_label, is_labelled, no_index, unit_called, function_name, function_unit}
use Rattle.hep_code.specs.Words.{at, end_of, behind}

-- ---- by the innermost DO that ends there

pub behind_none : (unit : List Statement) (k : ℕ) (ds : List ℕ) → slice_get ds 0 ≡ None → behind unit k ds ≡ at (following unit k)
behind_none unit k [] e = refl
behind_none unit k (d ∷ ds) e = absurd cc

pub behind_some : (unit : List Statement) (k d : ℕ) (ds : List ℕ) → slice_get ds 0 ≡ Some d → behind unit k ds ≡ end_of d
behind_some unit k d [] e = absurd cc
behind_some unit k d (c ∷ ds) e = cc

-- ---- the first element that passes a test is in its list

at_most : {A : Type 0} (test : A → Bool) (xs : List A) (d : ℕ) → d ≤ length xs → unwrap_or (index_where test xs) d ≤ length xs
at_most test [] d h = h
at_most test (x ∷ xs) d h = by (test x) (index_where test xs) (at_most test xs 0 (omega arith)) where
  by : (b : Bool) (o : Option ℕ) → unwrap_or o 0 ≤ length xs → unwrap_or (if b then Some 0 else option_map suc o) d ≤ suc (length xs)
  by true o e = omega arith
  by false None e = h
  by false (Some k) e = omega (arith, e)

pub called_at_most : (program : Units) (x : Name) → unit_called program x ≤ length program
called_at_most program x = at_most (λ unit. is_named (subroutine_name unit) x) program 0 (omega arith)

pub referred_at_most : (program : Units) (x : Name) → function_unit program x ≤ length program
referred_at_most program x = at_most (λ unit. is_named (function_name unit) x) program 0 (omega arith)

by_label : (unit : List Statement) (o : Option ℕ) → unwrap_or (option_map (index_of_label unit) o) (no_index unit) ≤ length unit
by_label unit None = omega arith
by_label unit (Some l) = at_most (is_labelled l) unit (length unit) (omega arith)

pub terminal_at_most : (unit : List Statement) (d : ℕ) → terminal_of unit d ≤ length unit
terminal_at_most unit d = by_label unit (terminal_by_form [] (statement_at unit d).form)

-- ---- past the last statement of a unit

pub following_past : (unit : List Statement) (k : ℕ) → length unit ≤ k → following unit k ≡ k + 1
following_past unit k h =
    let e : executable_from unit (suc k) ≡ suc k = ap (λ (ss : List Statement). suc k + passed_over ss) (drop_all (suc k) unit (omega arith)) ∙ omega arith in
    let n : slice_get unit (suc k) ≡ None = slice_get_past unit (suc k) (omega arith) in
    rw e (rw n (omega arith))
