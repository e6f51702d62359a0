-- How many instructions units have, and one unit more that was lowered.
use Rattle.std.proofs.Common.{◌≡◌, ◌⊎◌, inl, inr, ℕ, ◌+◌, ◌<◌, List, [], ◌∷◌, ◌++◌, length, Option, Some, None, sym, ap, ◌∙◌, subst, arith, length-append, add-one, get_or, zero, suc, ◌≤◌, slice_get}
use Rattle.std.proofs.lemmas.Bool.{cases_lt}
use Rattle.std.proofs.lemmas.Option.{same_Some, slice_get-get_or}
use Rattle.hep_source.proofs.Tests.{at-front, at-last}
use Rattle.hep_machine.specs.Words.{Units, Statement}
use Rattle.hep_code.specs.Words.{line_too_deep, statement_code, statements_code, Table, addressed_unit, AddressedUnit, code_of, table_of}
use Rattle.hep_image.specs.declared.unit.UnitCode.{UnitCode}
use Rattle.hep_image.specs.Image.{IsUnitCode}
use Rattle.hep_accepted_laws.specs.PlacedCode.{code_in}
use Rattle.hep_lower.specs.declared.units.LoweredUnit.TheVariants.{Runnable}
use Rattle.hep_lower.specs.declared.units.LoweredUnits.{LoweredUnits}
use Rattle.hep_lower.specs.Refusals.{IsFirstDeep, instructions_in}
use Rattle.hep_lower.specs.LoweredUnits.{AreUnits, IsUnit}
use Rattle.hep_names.proofs.Passes.{within}
use Rattle.hep_image.specs.Places.{addresses_of}

-- a number below one more is below or the last one
split : (u n : ℕ) → u < n + 1 → (u < n) ⊎ (u ≡ n)
split u n h = elim (cases_lt u n) [
  | inl less ↦ inl less
  | inr more ↦ inr (omega (arith, h, more))
]

item-before : {A : Type 0} (xs : List A) (x y : A) (u : ℕ) → u < length xs → slice_get (xs ++ x ∷ []) u ≡ Some y → slice_get xs u ≡ Some y
item-before xs x y u h e =
    let here = slice_get-get_or xs u y h in
    here ∙ (sym (at-front xs (x ∷ []) u (get_or xs u y) here) ∙ e)

module _ (program : Units) (n : ℕ) (before after : LoweredUnits) (known : AreUnits program n before) where
  more-counted : {k : ℕ} → after.instructions ≡ before.instructions + k → k ≡ length (code_in program n) → after.instructions ≡ instructions_in program (n + 1)
  more-counted {k = k} total is = omega (arith, total, is, known.counted, ap (instructions_in program) (add-one n))

  pub added-runnable : (unit : UnitCode) → IsUnit program n (Runnable unit) → after.codes.items ≡ before.codes.items ++ unit ∷ [] → after.too_deep ≡ before.too_deep → after.instructions ≡ before.instructions + length unit.code → AreUnits program (n + 1) after
  added-runnable unit is more same total = record { deep = subst (IsFirstDeep program (n + 1)) (sym same) (by_deep before.too_deep known.deep); counted = counted; all = all; each = each } where
    counted : after.instructions ≡ instructions_in program (n + 1)
    counted = more-counted total (ap length is.0.code)

    by_deep : (o : Option ℕ) → IsFirstDeep program n o → IsFirstDeep program (n + 1) o
    by_deep None h = λ u le. elim (split u n le) [
      | inl less ↦ h u less
      | inr last ↦ ap (λ v. line_too_deep (code_in program v)) last ∙ is.1
    ]
    by_deep (Some line) h = (h.0, omega (arith, h.1), h.2, h.3)

    all : after.too_deep ≡ None → length after.codes.items ≡ n + 1
    all none = ap length more ∙ (length-append before.codes.items (unit ∷ []) ∙ omega (arith, known.all (sym same ∙ none)))

    each : after.too_deep ≡ None → (u : ℕ) (x : UnitCode) → slice_get after.codes.items u ≡ Some x → IsUnitCode program u x
    each none u x e =
        let long = known.all (sym same ∙ none) in
        let there = ap (λ (xs : List UnitCode). slice_get xs u) (sym more) ∙ e in
        elim (split u n (omega (arith, within after.codes.items u x e, all none))) [
          | inl less ↦ known.each (sym same ∙ none) u x (item-before before.codes.items unit x u (omega (arith, less, long)) there)
          | inr last ↦
              subst (λ v. IsUnitCode program v x) (sym last) (
              subst (IsUnitCode program n) (same_Some unit x (sym (at-last before.codes.items unit) ∙ (ap (slice_get (before.codes.items ++ unit ∷ [])) (long ∙ sym last) ∙ there))) is.0)
        ]

-- ---- how many instructions there are

some-statements : (table : Table) (k : ℕ) (ss : List Statement) → 1 ≤ length (statements_code table k ss)
some-statements table k [] = omega arith
some-statements table k (s ∷ ss) =
    omega (arith, length-append (statement_code table k s) (statements_code table (suc k) ss), some-statements table (suc k) ss)

some-code : (addressed : AddressedUnit) → 1 ≤ length (code_of addressed)
unfolding code_of
some-code addressed = some-statements (table_of addressed) 0 addressed.unit

-- each unit has one at least
pub one-each : (program : Units) (n : ℕ) → n ≤ instructions_in program n
one-each program zero = omega arith
one-each program (suc n) = omega (arith, one-each program n, some-code (addressed_unit program (addresses_of program) n))

-- and all together have as many as each
pub as-many : (program : Units) (u n : ℕ) → u < n → length (code_in program u) ≤ instructions_in program n
as-many program u zero h = absurd (omega (arith, h))
as-many program u (suc n) h = elim (split u n (omega (arith, h))) [
  | inl less ↦ omega (arith, as-many program u n less)
  | inr same ↦ omega (arith, ap (λ v. length (code_in program v)) same)
]

-- more units have no fewer
pub rising : (program : Units) (n m : ℕ) → n ≤ m → instructions_in program n ≤ instructions_in program m
rising program zero zero h = omega arith
rising program (suc n) zero h = absurd (omega (arith, h))
rising program n (suc m) h = elim (split n (suc m) (omega (arith, h))) [
  | inl less ↦ omega (arith, rising program n m (omega (arith, less)))
  | inr same ↦ omega (arith, ap (instructions_in program) same)
]
