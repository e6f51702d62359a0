-- RESUME stands in subroutines alone, which have no result: docs/LANGUAGE.md, 9 and 10.
use Rattle.std.proofs.Common.{◌≡◌, ℕ, ◌<◌, Bool, true, false, ◌&&◌, List, [], ◌∷◌, ◌++◌, length, Option, Some, None, refl, sym, ap, ◌∙◌, subst, slice_get}
use Rattle.std.specs.Option.{is_none, unwrap_or}
use Rattle.hep_machine.specs.Words.{Form, Statement, Units, no_statement, function_by_header, function_name, statement_at, subroutine_name, unit_at, Value, Reference, whole, then_part, part_of, target_part, control_part, actuals_of, targets_part, items_part, Action, assigning, choosing, branching, testing_condition, entering_block, entering_loop, calling, creating}
use Rattle.hep_machine.specs.Words.{purging, printing, jumping, continuing, leaving, resuming, stopping, does, next_of, next_of_form, Work, doing, ending}
use Rattle.hep_source.specs.Units.{subroutine_by_header}
use Rattle.hep_source.specs.declared.statement.Form.TheVariants as form
use Rattle.hep_conditions.specs.Words.{IsAccepted, argument_violations, common_violations, count_violations, data_violations, function_types, jump_violations, label_violations, name_violations, resume_violations, structure_violations, type_missing_violations, type_violations, unknown_name_violations, violations_in, is_resume}
use Rattle.hep_binding.proofs.AcceptedLawsParts.{none-append, none-each, none-when}
use Rattle.hep_binding.specs.AcceptedLawsPartlyEvaluated.{IsFilledForm}
use Rattle.hep_binding.specs.AcceptedLawsWorkOrigins.{ComesFrom}
use Rattle.hep_image.proofs.Numbers.{unit-there}
use Rattle.hep_code.proofs.ControlFlow.{holds_of}

-- ---- what comes next is RESUME of RESUME alone

-- of form f, where this is its action
abbrev IsOf : Form → Action → Type 0
IsOf f resuming = f ≡ form.Resume
IsOf f _ = Unit {0}

action-of : (unit : List Statement) (f : Form) (a : Action) → next_of_form unit f ≡ does a → IsOf f a
action-of unit (form.Assign x t) a e = holds_of (IsOf (form.Assign x t)) (λ (both : Value × Reference). assigning both.1 both.0) (then_part (λ v r. (v, r)) (part_of unit t) (target_part unit x)) a (λ b. tt) e
action-of unit (form.ComputedGoTo labels t) a e = holds_of (IsOf (form.ComputedGoTo labels t)) (choosing labels) (part_of unit t) a (λ b. tt) e
action-of unit (form.ArithmeticIf t labels) a e = holds_of (IsOf (form.ArithmeticIf t labels)) (branching labels) (part_of unit t) a (λ b. tt) e
action-of unit (form.IfThen t) a e = holds_of (IsOf (form.IfThen t)) entering_block (part_of unit t) a (λ b. tt) e
action-of unit (form.ElseIf t) a e = holds_of (IsOf (form.ElseIf t)) entering_block (part_of unit t) a (λ b. tt) e
action-of unit (form.Do c) a e = holds_of (IsOf (form.Do c)) (λ (m : Value × Value × Value). entering_loop c.variable.name m.0 m.1 m.2) (control_part unit c) a (λ b. tt) e
action-of unit (form.Call p ts) a e = holds_of (IsOf (form.Call p ts)) (calling p.name) (actuals_of unit ts) a (λ b. tt) e
action-of unit (form.Create p ts) a e = holds_of (IsOf (form.Create p ts)) (creating p.name) (actuals_of unit ts) a (λ b. tt) e
action-of unit (form.Purge targets) a e = holds_of (IsOf (form.Purge targets)) purging (targets_part unit targets) a (λ b. tt) e
action-of unit (form.Print items) a e = holds_of (IsOf (form.Print items)) printing (items_part unit items) a (λ b. tt) e
action-of unit (form.GoTo l) a e = holds_of (IsOf (form.GoTo l)) jumping (whole l) a (λ b. tt) e
action-of unit form.Return a e = subst (IsOf form.Return) (let same : leaving ≡ a = cc in same) tt
action-of unit form.End a e = subst (IsOf form.End) (let same : leaving ≡ a = cc in same) tt
action-of unit form.Resume a e = subst (IsOf form.Resume) (let same : resuming ≡ a = cc in same) refl
action-of unit form.Stop a e = subst (IsOf form.Stop) (let same : stopping ≡ a = cc in same) tt
action-of unit f a e = subst (IsOf f) (let same : continuing ≡ a = cc in same) tt

-- ---- and is so in the statement

is-resume : (unit : List Statement) (f g : Form) → IsFilledForm unit f g → g ≡ form.Resume → is_resume f ≡ true
is-resume unit (form.Assign x t) g (y, u, e, target, rest) is = absurd (cc (sym e ∙ is))
is-resume unit (form.ComputedGoTo labels t) g (u, e, rest) is = absurd (cc (sym e ∙ is))
is-resume unit (form.ArithmeticIf t labels) g (u, e, rest) is = absurd (cc (sym e ∙ is))
is-resume unit (form.IfThen t) g (u, e, rest) is = absurd (cc (sym e ∙ is))
is-resume unit (form.ElseIf t) g (u, e, rest) is = absurd (cc (sym e ∙ is))
is-resume unit (form.Do c) g (d, e, rest) is = absurd (cc (sym e ∙ is))
is-resume unit (form.Call p ts) g (us, e, rest) is = absurd (cc (sym e ∙ is))
is-resume unit (form.Create p ts) g (us, e, rest) is = absurd (cc (sym e ∙ is))
is-resume unit (form.Purge targets) g (us, e, rest) is = absurd (cc (sym e ∙ is))
is-resume unit (form.Print items) g (us, e, rest) is = absurd (cc (sym e ∙ is))
is-resume unit f g e is = ap is_resume (sym e ∙ is)

-- a test of a logical IF, or the end of a DO, is none
abbrev IsOther : Action → Type 0
IsOther resuming = ⊥
IsOther _ = Unit {0}

resume-there : (unit : List Statement) (k : ℕ) (work : Work) → ComesFrom unit k work → next_of unit work ≡ does resuming → is_resume (statement_at unit k).form ≡ true
resume-there unit k (doing [] f) from e = is-resume unit (statement_at unit k).form f from.1 (action-of unit f resuming e)
resume-there unit k (doing (t ∷ ts) f) from e = absurd (holds_of IsOther testing_condition (part_of unit t) resuming (λ v. tt) e)
resume-there unit k (ending d) from e = absurd cc

-- ---- the unit is a subroutine

no-result : (unit : List Statement) → is_none (subroutine_name unit) ≡ false → function_name unit ≡ None
no-result [] e = refl
no-result (s ∷ ss) e = by_form s.form e where
  by_form : (f : Form) → is_none (subroutine_by_header f) ≡ false → function_by_header f ≡ None
  by_form (form.Function t p dummies) e = absurd cc
  by_form _ e = refl

none-resumed : (program : Units) (unit : List Statement) (u : ℕ) → IsAccepted program → slice_get program u ≡ Some unit → resume_violations unit ≡ []
none-resumed program unit u accepted is =
    let all = none-append _ (common_violations program ++ name_violations program) accepted in
    let v1 = none-append (type_missing_violations (function_types program) unit) _ (none-each (violations_in program) program u unit all.0 is) in
    let v2 = none-append (type_violations (function_types program) unit) _ v1.1 in
    let v3 = none-append (count_violations program unit) _ v2.1 in
    let v4 = none-append (argument_violations (function_types program) program unit) _ v3.1 in
    let v5 = none-append (label_violations unit) _ v4.1 in
    let v6 = none-append (structure_violations (function_types program) unit) _ v5.1 in
    let v7 = none-append (jump_violations unit) _ v6.1 in
    let v8 = none-append (unknown_name_violations program unit) _ v7.1 in
    (none-append (data_violations unit) (resume_violations unit) v8.1).1

-- where a conjunction is false and its first part is true, the second one is false
pub both-false : (a b : Bool) → (a && b) ≡ false → a ≡ true → b ≡ false
both-false true b e is = e
both-false false b e is = absurd cc

pub resumes-without-result : (program : Units) (u k : ℕ) (work : Work) → IsAccepted program → u < length program → ComesFrom (unit_at program u) k work → next_of (unit_at program u) work ≡ does resuming → function_name (unit_at program u) ≡ None
resumes-without-result program u k work accepted inside from e = by_statement (slice_get (unit_at program u) k) refl (resume-there (unit_at program u) k work from e) where
  by_statement : (o : Option Statement) → slice_get (unit_at program u) k ≡ o → is_resume (unwrap_or o no_statement).form ≡ true → function_name (unit_at program u) ≡ None
  by_statement None there is = absurd cc
  by_statement (Some s) there is =
      let unit = unit_at program u in
      no-result unit (both-false (is_resume s.form) (is_none (subroutine_name unit)) (none-when _ _ (none-each _ unit k s (none-resumed program unit u accepted (unit-there program u inside)) there)) is)
