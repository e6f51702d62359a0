-- The units of the activations of a run, and what is needed for their dummy arguments to be bound.
use Rattle.std.proofs.Common.{◌≡◌, ℕ, zero, suc, ◌<◌, ◌≤◌, true, false, List, [], ◌∷◌, length, Option, Some, None, refl, sym, ap, ◌∙◌, subst, arith, true≢false, get_or, is_some, slice_get}
use Rattle.std.specs.Option.{option_or, unwrap_or}
use Rattle.std.proofs.lemmas.Option.{slice_get_within, slice_get-get_or}
use Rattle.hep_machine.specs.Words.{Name, Form, Statement, Units, dummies_by_header, dummies_of, is_main, main_among, main_unit, function_by_header, procedure_name, subroutine_by_header, unit_at, is_array, is_dummy, no_activation, numbered, unit_of, run, Activation}
use Rattle.hep_source.specs.declared.statement.Form.TheVariants as form
use Rattle.hep_conditions.specs.Words.{IsAccepted}
use Rattle.hep_accepted_laws.specs.PartlyEvaluated.{HasShape}
use Rattle.hep_accepted_laws.proofs.Parts.{found_at}
use Rattle.hep_image.specs.BoundActivations.{AreClosed}
use Rattle.hep_accepted_laws.proofs.Starts.{index_some}
use Rattle.hep_accepted_laws.proofs.RunCalls.{calls-there}
use Rattle.hep_accepted_laws.proofs.Levels.{every-numbered, in-run}
use Rattle.hep_image.proofs.Numbers.{unit-there}

-- ---- units

-- the main program, where there is one
main-found : (program : Units) → is_some (main_among program) ≡ true → (unit : List Statement) × (slice_get program (main_unit program) ≡ Some unit) × (is_main (procedure_name unit) ≡ true)
main-found program has = by_index (main_among program) refl has where
  by_index : (o : Option ℕ) → main_among program ≡ o → is_some o ≡ true → (unit : List Statement) × (slice_get program (main_unit program) ≡ Some unit) × (is_main (procedure_name unit) ≡ true)
  by_index None e some = absurd (true≢false (sym some))
  by_index (Some m) e some =
      let found = found_at (λ unit. is_main (procedure_name unit)) program m e in
      (found.0, ap (slice_get program) (ap (λ o. unwrap_or o 0) e) ∙ found.1, found.2)

main-there : (program : Units) → is_some (main_among program) ≡ true → main_unit program < length program
main-there program has = let found = main-found program has in slice_get_within program (main_unit program) found.0 found.1

pub units-there : (program : Units) (ps : List ℕ) (a : ℕ) → IsAccepted program → is_some (main_among program) ≡ true → 1 ≤ a → a ≤ length (run program ps).activations → slice_get program (unit_of (run program ps) a) ≡ Some (unit_at program (unit_of (run program ps) a))
units-there program ps zero accepted has one le = absurd (omega (arith, one))
units-there program ps (suc i) accepted has one le =
    let state = in-run program (λ u. u < length program) (λ s level h k. calls-there program (unit_of s level.activation) level.statement level.work accepted k.1) (main-there program has) ps in
    let is : numbered (run program ps).activations (suc i) ≡ Some (get_or (run program ps).activations i no_activation) = slice_get-get_or (run program ps).activations i no_activation (omega (arith, le)) in
    let less : (get_or (run program ps).activations i no_activation).unit < length program = every-numbered (λ (x : Activation). x.unit < length program) (run program ps).activations (suc i) (get_or (run program ps).activations i no_activation) state.0 is in
    subst (λ (o : Option Activation). slice_get program (unwrap_or o no_activation).unit ≡ Some (unit_at program (unwrap_or o no_activation).unit)) (sym is) (
    unit-there program (get_or (run program ps).activations i no_activation).unit less)

-- ---- the main program

pub main-plain : (program : Units) → is_some (main_among program) ≡ true → dummies_of (unit_at program (main_unit program)) ≡ []
main-plain program has =
    let found = main-found program has in
    ap (λ o. dummies_of (unwrap_or o [])) found.1 ∙ by_unit found.0 found.2
  where
    by_form : (f : Form) → is_main (option_or (subroutine_by_header f) (function_by_header f)) ≡ true → dummies_by_header f ≡ []
    by_form (form.Subroutine p dummies) e = absurd (true≢false (sym e))
    by_form (form.Function t p dummies) e = absurd (true≢false (sym e))
    by_form _ e = refl

    by_unit : (unit : List Statement) → is_main (procedure_name unit) ≡ true → dummies_of unit ≡ []
    by_unit [] e = refl
    by_unit (s ∷ ss) e = by_form s.form e

-- ---- arrays

-- the law of shapes of accepted programs
abbrev pub HaveShapes : Type 0
HaveShapes = (program : Units) (u : ℕ) (unit : List Statement) (x : Name) → IsAccepted program → slice_get program u ≡ Some unit → is_array unit x ≡ true → is_dummy unit x ≡ false → HasShape unit x

pub closed : HaveShapes → (program : Units) → IsAccepted program → AreClosed program
closed shapes program accepted u unit x is array none =
    let shape = shapes program u unit x accepted is array (index_some x (dummies_of unit) none) in
    (shape.0, shape.1, shape.3, shape.4)
