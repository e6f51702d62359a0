-- Calls and references of functions of accepted programs.
use Rattle.std.proofs.Common.{◌≡◌, ◌⊎◌, inl, inr, ℕ, zero, suc, Bool, true, false, List, [], ◌∷◌, length, Option, Some, refl, sym, ap, subst, true≢false, arith, ◌++◌, ◌||◌, ◌&&◌, not, slice_get, nat_eq, is_none}
use Rattle.std.specs.List.{list_all}
use Rattle.std.specs.Option.{unwrap_or}
use Rattle.std.proofs.lemmas.Bool.{and_parts, not-true, eqb-true}
use Rattle.std.proofs.lemmas.Bool.Decides.{nat_tests}
use Rattle.std.proofs.lemmas.Option.{none-some, same_Some}
use Rattle.hep_machine.specs.Words.{Tree, Trees, no_trees, trees, Target, PureFunction, StateFunction, Name, Statement, Units, dummies_of, is_named, function_called, function_name, subroutine_called, subroutine_name, unit_at, is_array, is_constant_name, is_nonempty, Meaning, external, is_external, pure, state, listed_meaning}
use Rattle.hep_conditions.specs.Words.{FunctionTypes, function_types, fits_reference, is_reference_counted, is_unknown, list_of, actual_class, all_given, fit_dummies, fits_call, fits_dummy, fits_subroutine, is_purgeable, is_reference_given, is_test_typed, is_tested_typed, IsAccepted, count_of, is_call_counted, is_counted, takes, takes_actuals, takes_list, unknown_references, unknown_subroutines, unknown_targets, Calling, NameWithList, calls_in, names_with_lists, targets_purged, at_line, at_occurrence, when}
use Rattle.hep_accepted_laws.specs.Agreement.{CallsSubroutine, FitPairwise, IsOneAsynchronousScalar, RefersToFunction}
use Rattle.hep_accepted_laws.proofs.Parts.{and_past, found_at, none-append, none-each, none-when, all-each, some_value, unviolated}
use Rattle.hep_conditions.proofs.Agreeing.{none-when as none-unless}

-- ---- calls

fit_each : (functions : FunctionTypes) (unit callee : List Statement) (xs : List Name) (ts : List Tree) → fit_dummies callee xs (all_given functions unit ts) ≡ true → (j : ℕ) (x : Name) (t : Tree) → slice_get xs j ≡ Some x → slice_get ts j ≡ Some t → fits_dummy callee x (actual_class functions unit t) ≡ true
fit_each functions unit callee [] ts e j x t ix it = absurd (none-some x ix)
fit_each functions unit callee (y ∷ ys) [] e j x t ix it = absurd (none-some t it)
fit_each functions unit callee (y ∷ ys) (v ∷ vs) e zero x t ix it =
    let here = (and_parts (fits_dummy callee y (actual_class functions unit v)) (fit_dummies callee ys (all_given functions unit vs)) e).0 in
    subst (λ z. fits_dummy callee z (actual_class functions unit t) ≡ true) (same_Some y x ix) (subst (λ w. fits_dummy callee y (actual_class functions unit w) ≡ true) (same_Some v t it) here)
fit_each functions unit callee (y ∷ ys) (v ∷ vs) e (suc j) x t ix it =
    fit_each functions unit callee ys vs (and_parts (fits_dummy callee y (actual_class functions unit v)) (fit_dummies callee ys (all_given functions unit vs)) e).1 j x t ix it

-- the callee that is found, with what the tests of numbers and kinds say of it
agreed : (program : Units) (unit callee : List Statement) (o : Option ℕ) (n v : ℕ) (ts : List Tree) → o ≡ Some v → slice_get program v ≡ Some callee → takes_actuals program o n ≡ true → fits_subroutine (function_types program) program unit o ts ≡ true
    → (n ≡ length (dummies_of callee)) × FitPairwise (function_types program) unit callee ts
agreed program unit callee o n v ts found is counted fit =
    let fs : FunctionTypes = function_types program in
    let at : unit_at program v ≡ callee = ap (λ (q : Option (List Statement)). unwrap_or q []) is in
    let count : nat_eq n (length (dummies_of (unit_at program v))) ≡ true = subst (λ q. takes_actuals program q n ≡ true) found counted in
    let fits : fit_dummies (unit_at program v) (dummies_of (unit_at program v)) (all_given fs unit ts) ≡ true = subst (λ q. fits_subroutine fs program unit q ts ≡ true) found fit in
    let count_here : nat_eq n (length (dummies_of callee)) ≡ true = subst (λ (w : List Statement). nat_eq n (length (dummies_of w)) ≡ true) at count in
    let fits_here : fit_dummies callee (dummies_of callee) (all_given fs unit ts) ≡ true = subst (λ (w : List Statement). fit_dummies w (dummies_of w) (all_given fs unit ts) ≡ true) at fits in
    (eqb-true n (length (dummies_of callee)) count_here, fit_each fs unit callee (dummies_of callee) ts fits_here)

-- the tests of a statement
pub counted : (program : Units) (unit : List Statement) (u k : ℕ) (s : Statement) → IsAccepted program → slice_get program u ≡ Some unit → slice_get unit k ≡ Some s
    → (list_all (is_counted unit) (names_with_lists s) ≡ true) × (list_all (is_reference_counted program unit) (names_with_lists s) ≡ true) × (list_all (is_call_counted program) (calls_in s.form) ≡ true)
counted program unit u k s accepted iu ik =
    let here = none-each (λ (w : Statement). when (not (list_all (is_counted unit) (names_with_lists w) && (list_all (is_reference_counted program unit) (names_with_lists w) && list_all (is_call_counted program) (calls_in w.form)))) (at_line 303 w.line)) unit k s (unviolated program unit u accepted iu).counts ik in
    let both = and_parts (list_all (is_counted unit) (names_with_lists s)) _ (none-unless _ (at_line 303 s.line) here) in
    let rest = and_parts (list_all (is_reference_counted program unit) (names_with_lists s)) (list_all (is_call_counted program) (calls_in s.form)) both.1 in
    (both.0, rest.0, rest.1)

pub given : (program : Units) (unit : List Statement) (u k : ℕ) (s : Statement) → IsAccepted program → slice_get program u ≡ Some unit → slice_get unit k ≡ Some s
    → (list_all (fits_call (function_types program) program unit) (calls_in s.form) ≡ true) × (list_all (fits_reference (function_types program) program unit) (names_with_lists s) ≡ true)
    × (list_all (is_reference_given (function_types program) unit) (names_with_lists s) ≡ true) × (list_all (is_purgeable (function_types program) unit) (targets_purged s.form) ≡ true)
given program unit u k s accepted iu ik =
    let fs : FunctionTypes = function_types program in
    let here = none-each (λ (w : Statement). when (not (list_all (fits_call fs program unit) (calls_in w.form) && (list_all (fits_reference fs program unit) (names_with_lists w) && (list_all (is_reference_given fs unit) (names_with_lists w) && list_all (is_purgeable (function_types program) unit) (targets_purged w.form))))) (at_line 304 w.line)) unit k s (unviolated program unit u accepted iu).arguments ik in
    let both = and_parts (list_all (fits_call fs program unit) (calls_in s.form)) _ (none-unless _ (at_line 304 s.line) here) in
    let more = and_parts (list_all (fits_reference fs program unit) (names_with_lists s)) _ both.1 in
    let rest = and_parts (list_all (is_reference_given fs unit) (names_with_lists s)) (list_all (is_purgeable (function_types program) unit) (targets_purged s.form)) more.1 in
    (both.0, more.0, rest.0, rest.1)

pub calls_agree : (program : Units) (u k i : ℕ) (unit : List Statement) (s : Statement) (c : Calling) → IsAccepted program → slice_get program u ≡ Some unit → slice_get unit k ≡ Some s → slice_get (calls_in s.form) i ≡ Some c → CallsSubroutine program unit c
calls_agree program u k i unit s c accepted iu ik ic =
    let unknown = none-each (λ (w : Statement). unknown_subroutines program w ++ (unknown_references program unit w ++ unknown_targets unit w)) unit k s (unviolated program unit u accepted iu).unknown_names ik in
    let subroutines = (none-append (unknown_subroutines program s) (unknown_references program unit s ++ unknown_targets unit s) unknown).0 in
    let called = none-each (λ (d : Calling). when (is_none (subroutine_called program d.occurrence.name)) (at_occurrence 310 s.line d.occurrence)) (calls_in s.form) i c subroutines ic in
    let found = some_value (subroutine_called program c.occurrence.name) (none-when _ (at_occurrence 310 s.line c.occurrence) called) in
    let callee = found_at (λ (w : List Statement). is_named (subroutine_name w) c.occurrence.name) program found.0 found.1 in
    let count = all-each (is_call_counted program) (calls_in s.form) i c (counted program unit u k s accepted iu ik).2 ic in
    let fit = all-each (fits_call (function_types program) program unit) (calls_in s.form) i c (given program unit u k s accepted iu ik).0 ic in
    let both = agreed program unit callee.0 (subroutine_called program c.occurrence.name) (length c.actuals) found.0 c.actuals found.1 callee.1 count fit in
    (found.0, callee.0, found.1, callee.1, callee.2, both.0, both.1)

-- ---- references of functions

-- a test of what isn't the language's
external_tested : (m : Meaning) (b : Bool) → m ≡ external → (not (is_external m) || b) ≡ true → b ≡ true
external_tested m b means e = subst (λ n. (not (is_external n) || b) ≡ true) means e

pub references_agree : (program : Units) (u k i : ℕ) (unit : List Statement) (s : Statement) (r : NameWithList) → IsAccepted program → slice_get program u ≡ Some unit → slice_get unit k ≡ Some s → slice_get (names_with_lists s) i ≡ Some r → listed_meaning unit r.occurrence.name ≡ external → RefersToFunction program unit r
references_agree program u k i unit s r accepted iu ik ir means =
    let x = r.occurrence.name in
    let o = function_called program x in
    let unknown = none-each (λ (w : Statement). unknown_subroutines program w ++ (unknown_references program unit w ++ unknown_targets unit w)) unit k s (unviolated program unit u accepted iu).unknown_names ik in
    let references = (none-append (unknown_references program unit s) (unknown_targets unit s) (none-append (unknown_subroutines program s) (unknown_references program unit s ++ unknown_targets unit s) unknown).1).0 in
    let one = none-each (λ (q : NameWithList). when (is_unknown program unit q.occurrence.name) (at_occurrence 310 s.line q.occurrence)) (names_with_lists s) i r references ir in
    let known : (is_external (listed_meaning unit x) && is_none o) ≡ false = none-when _ (at_occurrence 310 s.line r.occurrence) one in
    let found = some_value o (and_past (is_external (listed_meaning unit x)) (is_none o) (ap is_external means) known) in
    let callee = found_at (λ (w : List Statement). is_named (function_name w) x) program found.0 found.1 in
    let count = external_tested (listed_meaning unit x) (takes_actuals program o (count_of r.arguments)) means (all-each (is_reference_counted program unit) (names_with_lists s) i r (counted program unit u k s accepted iu ik).1 ir) in
    let fit = external_tested (listed_meaning unit x) (fits_subroutine (function_types program) program unit o (list_of r.arguments)) means (all-each (fits_reference (function_types program) program unit) (names_with_lists s) i r (given program unit u k s accepted iu ik).1 ir) in
    let both = agreed program unit callee.0 o (count_of r.arguments) found.0 (list_of r.arguments) found.1 callee.1 count fit in
    (found.0, callee.0, found.1, callee.1, callee.2, both.0, both.1)

pub one_tested : (functions : FunctionTypes) (unit : List Statement) (ts : Trees) → nat_eq (count_of ts) 1 ≡ true → is_tested_typed functions unit ts ≡ true → IsOneAsynchronousScalar functions unit ts
one_tested functions unit no_trees e t = absurd (true≢false (sym e))
one_tested functions unit (trees t no_trees) e is = (t, refl, is)
one_tested functions unit (trees t (trees v vs)) e is = absurd (no_two (count_of vs) e) where
  no_two : (n : ℕ) → nat_eq (suc (suc n)) 1 ≡ true → ⊥
  no_two n f = grind (arith, nat_tests)

pub tested_are_asynchronous : (program : Units) (u k i : ℕ) (unit : List Statement) (s : Statement) (r : NameWithList) (f : StateFunction) → IsAccepted program → slice_get program u ≡ Some unit → slice_get unit k ≡ Some s → slice_get (names_with_lists s) i ≡ Some r → listed_meaning unit r.occurrence.name ≡ state f → IsOneAsynchronousScalar (function_types program) unit r.arguments
tested_are_asynchronous program u k i unit s r f accepted iu ik ir means =
    let count = all-each (is_counted unit) (names_with_lists s) i r (counted program unit u k s accepted iu ik).0 ir in
    let test = all-each (is_reference_given (function_types program) unit) (names_with_lists s) i r (given program unit u k s accepted iu ik).2 ir in
    one_tested (function_types program) unit r.arguments (subst (λ m. takes_list m (count_of r.arguments) ≡ true) means count) (subst (λ m. is_test_typed (function_types program) unit m r.arguments ≡ true) means test)

pub functions_take_their_arguments : (program : Units) (u k i : ℕ) (unit : List Statement) (s : Statement) (r : NameWithList) (f : PureFunction) → IsAccepted program → slice_get program u ≡ Some unit → slice_get unit k ≡ Some s → slice_get (names_with_lists s) i ≡ Some r → listed_meaning unit r.occurrence.name ≡ pure f → takes f (count_of r.arguments) ≡ true
functions_take_their_arguments program u k i unit s r f accepted iu ik ir means =
    subst (λ m. takes_list m (count_of r.arguments) ≡ true) means (all-each (is_counted unit) (names_with_lists s) i r (counted program unit u k s accepted iu ik).0 ir)

-- ---- what is purged

purgeable : (program : Units) (u k i : ℕ) (unit : List Statement) (s : Statement) (t : Target) → IsAccepted program → slice_get program u ≡ Some unit → slice_get unit k ≡ Some s → slice_get (targets_purged s.form) i ≡ Some t
    → (t.occurrence.name.asynchronous ≡ true) × (not (is_constant_name unit t.occurrence.name) ≡ true) × ((not (is_nonempty t.subscripts) || is_array unit t.occurrence.name) ≡ true)
purgeable program u k i unit s t accepted iu ik it =
    let both = and_parts t.occurrence.name.asynchronous (not (is_constant_name unit t.occurrence.name) && (not (is_nonempty t.subscripts) || is_array unit t.occurrence.name)) (all-each (is_purgeable (function_types program) unit) (targets_purged s.form) i t (given program unit u k s accepted iu ik).3 it) in
    let rest = and_parts (not (is_constant_name unit t.occurrence.name)) (not (is_nonempty t.subscripts) || is_array unit t.occurrence.name) both.1 in
    (both.0, rest.0, rest.1)

pub purged_asynchronous : (program : Units) (u k i : ℕ) (unit : List Statement) (s : Statement) (t : Target) → IsAccepted program → slice_get program u ≡ Some unit → slice_get unit k ≡ Some s → slice_get (targets_purged s.form) i ≡ Some t → t.occurrence.name.asynchronous ≡ true
purged_asynchronous program u k i unit s t accepted iu ik it = (purgeable program u k i unit s t accepted iu ik it).0

pub purged_no_constant : (program : Units) (u k i : ℕ) (unit : List Statement) (s : Statement) (t : Target) → IsAccepted program → slice_get program u ≡ Some unit → slice_get unit k ≡ Some s → slice_get (targets_purged s.form) i ≡ Some t → is_constant_name unit t.occurrence.name ≡ false
purged_no_constant program u k i unit s t accepted iu ik it = not-true (is_constant_name unit t.occurrence.name) (purgeable program u k i unit s t accepted iu ik it).1

empty_or : (ts : List Tree) (b : Bool) → (not (is_nonempty ts) || b) ≡ true → (ts ≡ []) ⊎ (b ≡ true)
empty_or [] b e = inl refl
empty_or (t ∷ ts) b e = inr e

pub purged_element : (program : Units) (u k i : ℕ) (unit : List Statement) (s : Statement) (t : Target) → IsAccepted program → slice_get program u ≡ Some unit → slice_get unit k ≡ Some s → slice_get (targets_purged s.form) i ≡ Some t → (t.subscripts ≡ []) ⊎ (is_array unit t.occurrence.name ≡ true)
purged_element program u k i unit s t accepted iu ik it = empty_or t.subscripts (is_array unit t.occurrence.name) (purgeable program u k i unit s t accepted iu ik it).2
