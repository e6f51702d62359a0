-- What is called next agrees with the subroutine that is called; so do references and functions.
use Rattle.std.proofs.Common.{◌≡◌, ℕ, suc, ◌<◌, false, List, [], ◌∷◌, length, Option, Some, None, refl, sym, ap, ◌∙◌, subst, arith, slice_get, true, true≢false}
use Rattle.std.specs.Option.{unwrap_or}
use Rattle.std.proofs.lemmas.Option.{none-some, slice_get_within}
use Rattle.hep_machine.specs.Words.{Trees, evaluating, function_by_header, function_name, function_unit, is_named, no_trees, referring, subroutine_by_header, trees, no_unit, Tree, Name, Form, Statement, Units, dummies_of, is_main, subroutine_name, unit_at, Actual, calling, creating, Next, wants, does, Part, whole, first_redex, actual_of, actuals_of, next_of, then_part, unit_of, run, Work, unit_called}
use Rattle.hep_source.specs.declared.statement.Form.TheVariants as form
use Rattle.hep_conditions.specs.Words.{IsAccepted, count_of, list_of}
use Rattle.hep_accepted_laws.specs.Agreement.{CallsSubroutine, RefersToFunction}
use Rattle.hep_accepted_laws.proofs.Agreed.{calls_agree, references_agree}
use Rattle.hep_image.specs.BoundActivations.{CallsAgree, NextAgrees}
use Rattle.hep_accepted_laws.proofs.CodedCalls.{named_subroutine, some_named}
use Rattle.hep_accepted_laws.specs.PartlyEvaluated.{AreEach, IsFilledActual}
use Rattle.hep_accepted_laws.specs.WorkOrigins.{ComesFrom, IsCalledBy, IsGivenBy, IsReferredBy}
use Rattle.hep_accepted_laws.proofs.Levels.{CallsIn, top-comes}
use Rattle.hep_accepted_laws.proofs.References.{comes-reference}
use Rattle.hep_accepted_laws.proofs.PartlyEvaluated.{call_in, comes-call}

-- ---- as many actual arguments

pub same-length : {A B : Type 0} (R : A → B → Type 0) (xs : List A) (ys : List B) → AreEach R xs ys → length ys ≡ length xs
same-length R [] [] h = refl
same-length R [] (y ∷ ys) h = absurd h
same-length R (x ∷ xs) [] h = absurd h
same-length R (x ∷ xs) (y ∷ ys) h = ap suc (same-length R xs ys h.1)

-- each expression that is passed is what is passed for it
abbrev pub IsActual : List Statement → Tree → Actual → Type 0
IsActual unit t x = actual_of unit t ≡ whole x

abbrev AreActualsIn : List Statement → List Tree → Part (List Actual) → Type 0
AreActualsIn unit us (whole xs) = AreEach (IsActual unit) us xs
AreActualsIn unit us (first_redex r) = Unit {0}

pub are-actuals : (unit : List Statement) (us : List Tree) (xs : List Actual) → actuals_of unit us ≡ whole xs → AreEach (IsActual unit) us xs
are-actuals unit us xs e = subst (AreActualsIn unit us) e (all-in us) where
  all-in : (us : List Tree) → AreActualsIn unit us (actuals_of unit us)
  all-in [] = tt
  all-in (u ∷ us) = by_parts (actual_of unit u) (actuals_of unit us) refl (all-in us) where
    by_parts : (p : Part Actual) (q : Part (List Actual)) → actual_of unit u ≡ p → AreActualsIn unit us q → AreActualsIn unit (u ∷ us) (then_part (λ x xs. x ∷ xs) p q)
    by_parts (first_redex r) q e h = tt
    by_parts (whole x) (first_redex r) e h = tt
    by_parts (whole x) (whole xs) e h = (e, h)

-- as many are given as there are expressions
given-length : (unit : List Statement) (ts : List Tree) (actuals : List Actual) → IsGivenBy unit ts actuals → length actuals ≡ length ts
given-length unit ts actuals h =
    same-length (IsActual unit) h.filled actuals (are-actuals unit h.filled actuals h.are) ∙ same-length (IsFilledActual unit) ts h.filled h.is_filled

-- ---- the subroutine that is called

pub calls-subroutine : (program : Units) (u k : ℕ) (x : Name) (actuals : List Actual) → IsAccepted program → (h : IsCalledBy (unit_at program u) k x actuals) → CallsSubroutine program (unit_at program u) h.call
calls-subroutine program u k x actuals accepted = by_unit (slice_get program u) refl where
  by_unit : (o : Option (List Statement)) → slice_get program u ≡ o → (h : IsCalledBy (unwrap_or o []) k x actuals) → CallsSubroutine program (unwrap_or o []) h.call
  by_unit None e h = absurd (none-some h.statement h.there)
  by_unit (Some unit) e h = calls_agree program u k 0 unit h.statement h.call accepted e h.there (ap (λ cs. slice_get cs 0) h.only)

-- it has the number of the unit that is called
pub called-unit : (program : Units) (unit : List Statement) (k : ℕ) (x : Name) (actuals : List Actual) (h : IsCalledBy unit k x actuals) (calls : CallsSubroutine program unit h.call) → unit_called program x ≡ calls.0
called-unit program unit k x actuals h calls = ap (unit_called program) (sym h.name) ∙ ap (λ o. unwrap_or o no_unit) calls.2

pub callee : (program : Units) (unit : List Statement) (k : ℕ) (x : Name) (actuals : List Actual) (h : IsCalledBy unit k x actuals) (calls : CallsSubroutine program unit h.call) → unit_at program (unit_called program x) ≡ calls.1
callee program unit k x actuals h calls = ap (unit_at program) (called-unit program unit k x actuals h calls) ∙ ap (λ o. unwrap_or o []) calls.3

pub called-agrees : (program : Units) (u k : ℕ) (x : Name) (actuals : List Actual) → IsAccepted program → IsCalledBy (unit_at program u) k x actuals → length actuals ≡ length (dummies_of (unit_at program (unit_called program x)))
called-agrees program u k x actuals accepted h =
    let calls = calls-subroutine program u k x actuals accepted h in
    given-length (unit_at program u) h.call.actuals actuals h.given
    ∙ (calls.5 ∙ sym (ap (λ unit. length (dummies_of unit)) (callee program (unit_at program u) k x actuals h calls)))

pub called-there : (program : Units) (u k : ℕ) (x : Name) (actuals : List Actual) → IsAccepted program → IsCalledBy (unit_at program u) k x actuals → unit_called program x < length program
called-there program u k x actuals accepted h =
    let calls = calls-subroutine program u k x actuals accepted h in
    omega (arith, called-unit program (unit_at program u) k x actuals h calls, slice_get_within program calls.0 calls.1 calls.3)

pub called-subroutine : (program : Units) (u k : ℕ) (x : Name) (actuals : List Actual) → IsAccepted program → IsCalledBy (unit_at program u) k x actuals → is_main (subroutine_name (unit_at program (unit_called program x))) ≡ false
called-subroutine program u k x actuals accepted h =
    let calls = calls-subroutine program u k x actuals accepted h in
    ap (λ unit. is_main (subroutine_name unit)) (callee program (unit_at program u) k x actuals h calls) ∙ named_subroutine (subroutine_name calls.1) h.call.occurrence.name calls.4

-- a subroutine has no result
no-result : (unit : List Statement) (x : Name) → is_named (subroutine_name unit) x ≡ true → function_name unit ≡ None
no-result [] x e = absurd (true≢false (sym e))
no-result (s ∷ ss) x e = by-header s.form e where
  by-header : (f : Form) → is_named (subroutine_by_header f) x ≡ true → function_by_header f ≡ None
  by-header (form.Subroutine p dummies) e = refl
  by-header _ e = absurd (true≢false (sym e))

pub called-result : (program : Units) (u k : ℕ) (x : Name) (actuals : List Actual) → IsAccepted program → IsCalledBy (unit_at program u) k x actuals → function_name (unit_at program (unit_called program x)) ≡ None
called-result program u k x actuals accepted h =
    let calls = calls-subroutine program u k x actuals accepted h in
    ap function_name (callee program (unit_at program u) k x actuals h calls) ∙ no-result calls.1 h.call.occurrence.name calls.4

-- ---- the function that is referred to

pub refers-to-function : (program : Units) (u k : ℕ) (x : Name) (actuals : List Actual) → IsAccepted program → (h : IsReferredBy (unit_at program u) k x actuals) → RefersToFunction program (unit_at program u) h.reference
refers-to-function program u k x actuals accepted = by_unit (slice_get program u) refl where
  by_unit : (o : Option (List Statement)) → slice_get program u ≡ o → (h : IsReferredBy (unwrap_or o []) k x actuals) → RefersToFunction program (unwrap_or o []) h.reference
  by_unit None e h = absurd (none-some h.statement h.there)
  by_unit (Some unit) e h = references_agree program u k h.index unit h.statement h.reference accepted e h.there h.among h.meaning

referred-unit : (program : Units) (unit : List Statement) (k : ℕ) (x : Name) (actuals : List Actual) (h : IsReferredBy unit k x actuals) (refers : RefersToFunction program unit h.reference) → function_unit program x ≡ refers.0
referred-unit program unit k x actuals h refers = ap (function_unit program) (sym h.name) ∙ ap (λ o. unwrap_or o no_unit) refers.2

pub referred-callee : (program : Units) (unit : List Statement) (k : ℕ) (x : Name) (actuals : List Actual) (h : IsReferredBy unit k x actuals) (refers : RefersToFunction program unit h.reference) → unit_at program (function_unit program x) ≡ refers.1
referred-callee program unit k x actuals h refers = ap (unit_at program) (referred-unit program unit k x actuals h refers) ∙ ap (λ o. unwrap_or o []) refers.3

list-count : (ts : Trees) → length (list_of ts) ≡ count_of ts
list-count no_trees = refl
list-count (trees t ts) = ap suc (list-count ts)

pub referred-agrees : (program : Units) (u k : ℕ) (x : Name) (actuals : List Actual) → IsAccepted program → IsReferredBy (unit_at program u) k x actuals → length actuals ≡ length (dummies_of (unit_at program (function_unit program x)))
referred-agrees program u k x actuals accepted h =
    let refers = refers-to-function program u k x actuals accepted h in
    given-length (unit_at program u) (list_of h.reference.arguments) actuals h.given
    ∙ (list-count h.reference.arguments
    ∙ (refers.5 ∙ sym (ap (λ unit. length (dummies_of unit)) (referred-callee program (unit_at program u) k x actuals h refers))))

pub referred-there : (program : Units) (u k : ℕ) (x : Name) (actuals : List Actual) → IsAccepted program → IsReferredBy (unit_at program u) k x actuals → function_unit program x < length program
referred-there program u k x actuals accepted h =
    let refers = refers-to-function program u k x actuals accepted h in
    omega (arith, referred-unit program (unit_at program u) k x actuals h refers, slice_get_within program refers.0 refers.1 refers.3)

pub referred-function : (program : Units) (u k : ℕ) (x : Name) (actuals : List Actual) → IsAccepted program → IsReferredBy (unit_at program u) k x actuals → (y : Name) × (function_name (unit_at program (function_unit program x)) ≡ Some y)
referred-function program u k x actuals accepted h =
    let refers = refers-to-function program u k x actuals accepted h in
    let named = some_named (function_name refers.1) h.reference.occurrence.name refers.4 in
    (named.0, ap function_name (referred-callee program (unit_at program u) k x actuals h refers) ∙ named.1)

-- ---- over runs

pub calls-there : (program : Units) (u k : ℕ) (work : Work) → IsAccepted program → ComesFrom (unit_at program u) k work → CallsIn program (λ v. v < length program) (next_of (unit_at program u) work)
calls-there program u k work accepted h =
    by_next (next_of (unit_at program u) work)
    (λ c e. called-there program u k c.0 c.1 accepted (comes-call (unit_at program u) k c work h e))
    (λ x ys e. referred-there program u k x ys accepted (comes-reference (unit_at program u) x ys k work h e))
  where
    by_next : (n : Next) → ((c : Name × List Actual) → call_in n ≡ Some c → unit_called program c.0 < length program) → ((x : Name) (ys : List Actual) → n ≡ wants (referring x ys) → function_unit program x < length program) → CallsIn program (λ v. v < length program) n
    by_next (wants (evaluating r)) g f = tt
    by_next (wants (referring x ys)) g f = f x ys refl
    by_next (does (calling x actuals)) g f = g (x, actuals) refl
    by_next (does (creating x actuals)) g f = g (x, actuals) refl
    by_next (does _) g f = tt

pub calls-agree : (program : Units) → IsAccepted program → CallsAgree program
calls-agree program accepted ps p top lives =
    by_next (next_of unit top.0.work)
    (λ c e. called-agrees program (unit_of (run program ps) top.0.activation) top.0.statement c.0 c.1 accepted (comes-call unit top.0.statement c top.0.work comes e))
    (λ x ys e. referred-agrees program (unit_of (run program ps) top.0.activation) top.0.statement x ys accepted (comes-reference unit x ys top.0.statement top.0.work comes e))
  where
    unit : List Statement
    unit = unit_at program (unit_of (run program ps) top.0.activation)

    comes : ComesFrom unit top.0.statement top.0.work
    comes = top-comes program ps p top lives

    by_next : (n : Next) → ((c : Name × List Actual) → call_in n ≡ Some c → length c.1 ≡ length (dummies_of (unit_at program (unit_called program c.0))))
        → ((x : Name) (ys : List Actual) → n ≡ wants (referring x ys) → length ys ≡ length (dummies_of (unit_at program (function_unit program x)))) → NextAgrees program n
    by_next (wants (evaluating r)) g f = tt
    by_next (wants (referring x ys)) g f = f x ys refl
    by_next (does (calling x actuals)) g f = g (x, actuals) refl
    by_next (does (creating x actuals)) g f = g (x, actuals) refl
    by_next (does _) g f = tt
