-- Calls in the code are of subroutines with as many dummy arguments as they pass, and references of functions.
use Rattle.std.proofs.Common.{◌≡◌, ◌<◌, ℕ, suc, true, false, List, [], Option, Some, None, refl, sym, ap, ◌∙◌, subst, true≢false, length, slice_get}
use Rattle.std.specs.Option.{unwrap_or}
use Rattle.std.proofs.lemmas.Option.{slice_get_within}
use Rattle.hep_machine.specs.Words.{Trees, no_trees, trees, function_name, function_unit, Name, Statement, Units, dummies_of, is_main, is_named, subroutine_name, unit_at, no_unit, unit_called}
use Rattle.hep_conditions.specs.Words.{Calling, IsAccepted, NameWithList, count_of, function_types}
use Rattle.hep_code.specs.declared.instruction.Instruction.TheVariants.{Step}
use Rattle.hep_code.specs.declared.instruction.Operation.TheVariants.{Call, Create, Refer}
use Rattle.hep_code.specs.Words.{count}
use Rattle.hep_accepted_laws.specs.Agreement.{CallsSubroutine, RefersToFunction}
use Rattle.hep_accepted_laws.proofs.Agreed.{calls_agree, references_agree}
use Rattle.hep_accepted_laws.specs.PlacedCode.{IsCalledWith, IsReferredWith, code_in}
use Rattle.hep_accepted_laws.proofs.Coded.{AllMeet, Wish, code_meets}
use Rattle.hep_accepted_laws.proofs.AcceptedFacts.{Facts}
use Rattle.hep_accepted_laws.proofs.Placed.{unit_of_program}
use Rattle.hep_accepted_laws.proofs.Rights.{resolved, right}
use Rattle.hep_image.proofs.Numbers.{unit-there}

-- what has a name by which it is called is no main program
pub named_subroutine : (o : Option Name) (x : Name) → is_named o x ≡ true → is_main o ≡ false
named_subroutine None x e = absurd (true≢false (sym e))
named_subroutine (Some y) x e = refl

called : (program : Units) (unit : List Statement) (c : Calling) → CallsSubroutine program unit c → IsCalledWith program (unit_called program c.occurrence.name) (length c.actuals)
called program unit c (v, callee, number, there, is, counted, fit) =
    let same : callee ≡ unit_at program v = sym (ap (λ (o : Option (List Statement)). unwrap_or o []) there) in
    let here : IsCalledWith program v (length c.actuals)
    = (slice_get_within program v callee there, subst (λ (w : List Statement). is_main (subroutine_name w) ≡ false) same (named_subroutine (subroutine_name callee) c.occurrence.name is), counted ∙ ap (λ (w : List Statement). length (dummies_of w)) same) in
    subst (λ o. IsCalledWith program (unwrap_or o no_unit) (length c.actuals)) (sym number) here

-- what is named has a name
pub some_named : (o : Option Name) (x : Name) → is_named o x ≡ true → (y : Name) × (o ≡ Some y)
some_named None x e = absurd (true≢false (sym e))
some_named (Some y) x e = (y, refl)

counts : (ts : Trees) → count ts ≡ count_of ts
counts no_trees = refl
counts (trees t ts) = ap suc (counts ts)

referred : (program : Units) (unit : List Statement) (r : NameWithList) → RefersToFunction program unit r → IsReferredWith program (function_unit program r.occurrence.name) (count r.arguments)
referred program unit r (v, callee, number, there, is, counted, fit) =
    let same : callee ≡ unit_at program v = sym (ap (λ (o : Option (List Statement)). unwrap_or o []) there) in
    let here : IsReferredWith program v (count r.arguments)
    = (slice_get_within program v callee there, subst (λ (w : List Statement). (y : Name) × (function_name w ≡ Some y)) same (some_named (function_name callee) r.occurrence.name is), counts r.arguments ∙ (counted ∙ ap (λ (w : List Statement). length (dummies_of w)) same)) in
    subst (λ o. IsReferredWith program (unwrap_or o no_unit) (count r.arguments)) (sym number) here

abbrev calling : Units → Wish
calling program = record { variable = λ x. Unit {0}; tested = λ x. Unit {0}; call = IsCalledWith program; refer = IsReferredWith program; create = Unit {0}; purge = Unit {0}; argument = λ a. Unit {0} }

module _ (program : Units) (u : ℕ) (facts : Facts (function_types program) (unit_at program u)) (accepted : IsAccepted program) (h : u < length program) where
  all_called : AllMeet (calling program) (code_in program u)
  all_called =
      code_meets (function_types program) (unit_of_program program u) (calling program) (resolved (function_types program) (unit_of_program program u) facts (calling program) (λ x a v. tt) (λ p g varies. tt)) (
      right (function_types program) (unit_of_program program u) facts (calling program) (λ p g varies. tt) (record {
        called = λ s c g i. called program (unit_at program u) c (calls_agree program u g.0 i.0 (unit_at program u) s c accepted (unit-there program u h) g.1 i.1);
        passed = λ s c t g i j. tt;
        referred = λ s r g i m. referred program (unit_at program u) r (references_agree program u g.0 i.0 (unit_at program u) s r accepted (unit-there program u h) g.1 i.1 m);
        given = λ s r t g i j. tt;
        creating = λ s p ts g e. tt;
        purging = λ s ts g e. tt;
        purged = λ s t g i. tt;
      }))

  pub call_agrees : (i line v n next : ℕ) → slice_get (code_in program u) i ≡ Some (Step line (Call v n next)) → IsCalledWith program v n
  call_agrees i line v n next e = all_called (Step line (Call v n next)) (i, e)

  pub create_agrees : (i line v n next : ℕ) → slice_get (code_in program u) i ≡ Some (Step line (Create v n next)) → IsCalledWith program v n
  create_agrees i line v n next e = (all_called (Step line (Create v n next)) (i, e)).0

  pub reference_agrees : (i line v n : ℕ) → slice_get (code_in program u) i ≡ Some (Step line (Refer v n)) → IsReferredWith program v n
  reference_agrees i line v n e = all_called (Step line (Refer v n)) (i, e)
