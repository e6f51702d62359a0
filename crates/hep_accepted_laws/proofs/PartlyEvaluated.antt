-- A statement is itself with no values put in, and stays partly evaluated as one more is; what is called next is what the statement calls.
use Rattle.std.proofs.Common.{List, [], ◌∷◌, Some, refl, sym, ap, subst, ◌≡◌, ◌≢◌, ℕ, Option, None, ◌∙◌, slice_get}
use Rattle.hep_machine.specs.Words.{Tree, Target, DoControl, Form, PrintItem, Expression, Characters, Statement, Value, actual_of, increment_of, item_part, part_of, plug, plug_actuals, plug_control, plug_form, plug_item, plug_items, plug_list, plug_target, plug_targets, plugged_first, target_part, no_statement, Name, Occurrence, statement_at, Actual, Action, assigning, choosing, branching, testing_condition, entering_block, entering_loop, calling, creating, purging, printing, Next, wants, does, Part, whole, first_redex, Reference, actuals_of, control_part, items_part, next_by, next_of, next_of_form, targets_part, then_part, Work, doing, ending}
use Rattle.hep_source.specs.declared.statement.Form.TheVariants as form
use Rattle.hep_accepted_laws.specs.PartlyEvaluated.{AreEach, IsFilled, IsFilledActual, IsFilledControl, IsFilledForm, IsFilledItem, IsFilledTarget}
use Rattle.hep_accepted_laws.proofs.FilledTrees.{actual-plug, actual-self, filled-plug, filled-self, first-or, first-with}
use Rattle.std.specs.Option.{unwrap_or}
use Rattle.std.proofs.lemmas.Option.{none-some, same_Some}
use Rattle.hep_conditions.specs.Words.{calls_in}
use Rattle.hep_accepted_laws.specs.WorkOrigins.{ComesFrom, IsCalledBy}

-- ---- with no values

pub each-self : {A : Type 0} (R : A → A → Type 0) → ((x : A) → R x x) → (xs : List A) → AreEach R xs xs
each-self R h [] = tt
each-self R h (x ∷ xs) = (h x, each-self R h xs)

target-self : (unit : List Statement) (x : Target) → IsFilledTarget unit x x
target-self unit x = (refl, each-self (IsFilled unit) (filled-self unit) x.subscripts)

item-self : (unit : List Statement) (i : PrintItem) → IsFilledItem unit i i
item-self unit (Expression t) = (t, refl, filled-self unit t)
item-self unit (Characters cs) = refl

control-self : (unit : List Statement) (c : DoControl) → IsFilledControl unit c c
control-self unit c = record { terminal = refl; variable = refl; initial = filled-self unit c.initial; limit = filled-self unit c.limit; increment = filled-self unit (increment_of c.increment) }

pub form-self : (unit : List Statement) (f : Form) → IsFilledForm unit f f
form-self unit (form.Assign x t) = (x, t, refl, target-self unit x, filled-self unit t)
form-self unit (form.ComputedGoTo labels t) = (t, refl, filled-self unit t)
form-self unit (form.ArithmeticIf t labels) = (t, refl, filled-self unit t)
form-self unit (form.IfThen t) = (t, refl, filled-self unit t)
form-self unit (form.ElseIf t) = (t, refl, filled-self unit t)
form-self unit (form.Do c) = (c, refl, control-self unit c)
form-self unit (form.Call p ts) = (ts, refl, each-self (IsFilledActual unit) (actual-self unit) ts)
form-self unit (form.Create p ts) = (ts, refl, each-self (IsFilledActual unit) (actual-self unit) ts)
form-self unit (form.Purge targets) = (targets, refl, each-self (IsFilledTarget unit) (target-self unit) targets)
form-self unit (form.Print items) = (items, refl, each-self (IsFilledItem unit) (item-self unit) items)
form-self unit _ = refl

-- ---- with one value more

module _ (unit : List Statement) (v : Value) where
  -- ---- lists

  list-plug : (ts us : List Tree) → AreEach (IsFilled unit) ts us → AreEach (IsFilled unit) ts (plug_list unit us v)
  list-plug [] [] h = tt
  list-plug [] (u ∷ us) h = absurd h
  list-plug (t ∷ ts) [] h = absurd h
  list-plug (t ∷ ts) (u ∷ us) h =
      first-or (AreEach (IsFilled unit) (t ∷ ts)) (part_of unit u) (plug unit u v ∷ us) (u ∷ plug_list unit us v) (filled-plug unit v t u h.0, h.1) (h.0, list-plug ts us h.1)

  arguments-plug : (ts us : List Tree) → AreEach (IsFilledActual unit) ts us → AreEach (IsFilledActual unit) ts (plug_actuals unit us v)
  arguments-plug [] [] h = tt
  arguments-plug [] (u ∷ us) h = absurd h
  arguments-plug (t ∷ ts) [] h = absurd h
  arguments-plug (t ∷ ts) (u ∷ us) h =
      first-with unit v (AreEach (IsFilledActual unit) (t ∷ ts)) (actual_of unit u) (plug unit u v ∷ us) (u ∷ plug_actuals unit us v) (λ q f. (actual-plug unit v t u q h.0 f, h.1)) (h.0, arguments-plug ts us h.1)

  target-plug : (x y : Target) → IsFilledTarget unit x y → IsFilledTarget unit x (plug_target unit y v)
  target-plug x y h = (h.0, list-plug x.subscripts y.subscripts h.1)

  targets-plug : (xs ys : List Target) → AreEach (IsFilledTarget unit) xs ys → AreEach (IsFilledTarget unit) xs (plug_targets unit ys v)
  targets-plug [] [] h = tt
  targets-plug [] (y ∷ ys) h = absurd h
  targets-plug (x ∷ xs) [] h = absurd h
  targets-plug (x ∷ xs) (y ∷ ys) h =
      first-or (AreEach (IsFilledTarget unit) (x ∷ xs)) (target_part unit y) (plug_target unit y v ∷ ys) (y ∷ plug_targets unit ys v) (target-plug x y h.0, h.1) (h.0, targets-plug xs ys h.1)

  item-plug : (i j : PrintItem) → IsFilledItem unit i j → IsFilledItem unit i (plug_item unit j v)
  item-plug (Expression t) j (u, e, h) = (plug unit u v, ap (λ k. plug_item unit k v) e, filled-plug unit v t u h)
  item-plug (Characters cs) j e = ap (λ k. plug_item unit k v) e

  items-plug : (is js : List PrintItem) → AreEach (IsFilledItem unit) is js → AreEach (IsFilledItem unit) is (plug_items unit js v)
  items-plug [] [] h = tt
  items-plug [] (j ∷ js) h = absurd h
  items-plug (i ∷ is) [] h = absurd h
  items-plug (i ∷ is) (j ∷ js) h =
      first-or (AreEach (IsFilledItem unit) (i ∷ is)) (item_part unit j) (plug_item unit j v ∷ js) (j ∷ plug_items unit js v) (item-plug i j h.0, h.1) (h.0, items-plug is js h.1)

  control-plug : (c d : DoControl) → IsFilledControl unit c d → IsFilledControl unit c (plug_control unit d v)
  control-plug c d h =
      first-or (IsFilledControl unit c) (part_of unit d.initial) (record d { initial = plug unit d.initial v }) (
      plugged_first (part_of unit d.limit) (record d { limit = plug unit d.limit v }) (record d { increment = Some (plug unit (increment_of d.increment) v) })) (
      record { terminal = h.terminal; variable = h.variable; initial = filled-plug unit v c.initial d.initial h.initial; limit = h.limit; increment = h.increment }) (
      first-or (IsFilledControl unit c) (part_of unit d.limit) (record d { limit = plug unit d.limit v }) (record d { increment = Some (plug unit (increment_of d.increment) v) }) (
      record { terminal = h.terminal; variable = h.variable; initial = h.initial; limit = filled-plug unit v c.limit d.limit h.limit; increment = h.increment }) (
      record { terminal = h.terminal; variable = h.variable; initial = h.initial; limit = h.limit; increment = filled-plug unit v (increment_of c.increment) (increment_of d.increment) h.increment }))

  -- ---- statements

  pub form-plug : (f g : Form) → IsFilledForm unit f g → IsFilledForm unit f (plug_form unit g v)
  form-plug (form.Assign x t) g (y, u, e, h, k) =
      subst (λ g. IsFilledForm unit (form.Assign x t) (plug_form unit g v)) (sym e) (
      first-or (IsFilledForm unit (form.Assign x t)) (part_of unit u) (form.Assign y (plug unit u v)) (form.Assign (plug_target unit y v) u) (y, plug unit u v, refl, h, filled-plug unit v t u k) (plug_target unit y v, u, refl, target-plug x y h, k))
  form-plug (form.ComputedGoTo labels t) g (u, e, h) = (plug unit u v, ap (λ g. plug_form unit g v) e, filled-plug unit v t u h)
  form-plug (form.ArithmeticIf t labels) g (u, e, h) = (plug unit u v, ap (λ g. plug_form unit g v) e, filled-plug unit v t u h)
  form-plug (form.IfThen t) g (u, e, h) = (plug unit u v, ap (λ g. plug_form unit g v) e, filled-plug unit v t u h)
  form-plug (form.ElseIf t) g (u, e, h) = (plug unit u v, ap (λ g. plug_form unit g v) e, filled-plug unit v t u h)
  form-plug (form.Do c) g (d, e, h) = (plug_control unit d v, ap (λ g. plug_form unit g v) e, control-plug c d h)
  form-plug (form.Call p ts) g (us, e, h) = (plug_actuals unit us v, ap (λ g. plug_form unit g v) e, arguments-plug ts us h)
  form-plug (form.Create p ts) g (us, e, h) = (plug_actuals unit us v, ap (λ g. plug_form unit g v) e, arguments-plug ts us h)
  form-plug (form.Purge targets) g (us, e, h) = (plug_targets unit us v, ap (λ g. plug_form unit g v) e, targets-plug targets us h)
  form-plug (form.Print items) g (js, e, h) = (plug_items unit js v, ap (λ g. plug_form unit g v) e, items-plug items js h)
  form-plug _ g e = ap (λ g. plug_form unit g v) e

-- ---- what is called next

abbrev pub call_in_action : Action → Option (Name × List Actual)
call_in_action (calling x actuals) = Some (x, actuals)
call_in_action (creating x actuals) = Some (x, actuals)
call_in_action _ = None

abbrev pub call_in : Next → Option (Name × List Actual)
call_in (wants r) = None
call_in (does a) = call_in_action a

no-call : {A : Type 0} (f : A → Action) → ((x : A) → call_in_action (f x) ≡ None) → (p : Part A) (c : Name × List Actual) → call_in (next_by f p) ≡ Some c → ⊥
no-call f none (whole x) c e = none-some c (sym (none x) ∙ e)
no-call f none (first_redex r) c e = none-some c e

module _ (unit : List Statement) (k : ℕ) (c : Name × List Actual) where
  there-is : (o : Option Statement) (f : Form) → (unwrap_or o no_statement).form ≡ f → f ≢ form.End → o ≡ Some (unwrap_or o no_statement)
  there-is None f e other = absurd (other (sym e))
  there-is (Some s) f e other = refl

  called-by : (f : Form) (p : Occurrence) (ts us : List Tree) → (statement_at unit k).form ≡ f → f ≢ form.End → calls_in f ≡ record { occurrence = p; actuals = ts } ∷ [] → AreEach (IsFilledActual unit) ts us → (q : Part (List Actual)) → actuals_of unit us ≡ q → (a : List Actual → Action) → ((xs : List Actual) → call_in_action (a xs) ≡ Some (p.name, xs)) → call_in (next_by a q) ≡ Some c → IsCalledBy unit k c.0 c.1
  called-by f p ts us is other only h (first_redex r) e a call called = absurd (none-some c called)
  called-by f p ts us is other only h (whole xs) e a call called =
      let same : (p.name, xs) ≡ c = same_Some (p.name, xs) c (sym (call xs) ∙ called) in
      record {
        statement = statement_at unit k;
        call = record { occurrence = p; actuals = ts };
        there = there-is (slice_get unit k) f is other;
        only = ap calls_in is ∙ only;
        name = ap (λ (z : Name × List Actual). z.0) same;
        given = record { filled = us; is_filled = h; are = e ∙ ap (λ (z : Name × List Actual). whole z.1) same };
      }

  by-form : (f g : Form) → (statement_at unit k).form ≡ f → IsFilledForm unit f g → call_in (next_of_form unit g) ≡ Some c → IsCalledBy unit k c.0 c.1
  by-form (form.Assign x t) g is (y, u, e, h, i) called =
      absurd (no-call (λ (both : Value × Reference). assigning both.1 both.0) (λ both. refl) (then_part (λ v r. (v, r)) (part_of unit u) (target_part unit y)) c (subst (λ g. call_in (next_of_form unit g) ≡ Some c) e called))
  by-form (form.ComputedGoTo labels t) g is (u, e, h) called = absurd (no-call (choosing labels) (λ v. refl) (part_of unit u) c (subst (λ g. call_in (next_of_form unit g) ≡ Some c) e called))
  by-form (form.ArithmeticIf t labels) g is (u, e, h) called = absurd (no-call (branching labels) (λ v. refl) (part_of unit u) c (subst (λ g. call_in (next_of_form unit g) ≡ Some c) e called))
  by-form (form.IfThen t) g is (u, e, h) called = absurd (no-call entering_block (λ v. refl) (part_of unit u) c (subst (λ g. call_in (next_of_form unit g) ≡ Some c) e called))
  by-form (form.ElseIf t) g is (u, e, h) called = absurd (no-call entering_block (λ v. refl) (part_of unit u) c (subst (λ g. call_in (next_of_form unit g) ≡ Some c) e called))
  by-form (form.Do d) g is (b, e, h) called =
      absurd (no-call (λ (m : Value × Value × Value). entering_loop b.variable.name m.0 m.1 m.2) (λ m. refl) (control_part unit b) c (subst (λ g. call_in (next_of_form unit g) ≡ Some c) e called))
  by-form (form.Call p ts) g is (us, e, h) called =
      called-by (form.Call p ts) p ts us is (λ e. absurd cc) refl h (actuals_of unit us) refl (calling p.name) (λ xs. refl) (subst (λ g. call_in (next_of_form unit g) ≡ Some c) e called)
  by-form (form.Create p ts) g is (us, e, h) called =
      called-by (form.Create p ts) p ts us is (λ e. absurd cc) refl h (actuals_of unit us) refl (creating p.name) (λ xs. refl) (subst (λ g. call_in (next_of_form unit g) ≡ Some c) e called)
  by-form (form.Purge targets) g is (us, e, h) called = absurd (no-call purging (λ rs. refl) (targets_part unit us) c (subst (λ g. call_in (next_of_form unit g) ≡ Some c) e called))
  by-form (form.Print items) g is (us, e, h) called = absurd (no-call printing (λ rs. refl) (items_part unit us) c (subst (λ g. call_in (next_of_form unit g) ≡ Some c) e called))
  by-form _ g is e called = absurd (none-some c (sym (ap (λ g. call_in (next_of_form unit g)) e) ∙ called))

  pub comes-call : (work : Work) → ComesFrom unit k work → call_in (next_of unit work) ≡ Some c → IsCalledBy unit k c.0 c.1
  comes-call (doing [] f) h called = by-form (statement_at unit k).form f refl h.1 called
  comes-call (doing (t ∷ ts) f) h called = absurd (no-call testing_condition (λ v. refl) (part_of unit t) c called)
  comes-call (ending d) h called = absurd (none-some c called)
