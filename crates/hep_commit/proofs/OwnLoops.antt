-- The end of a DO in the code of a unit is that of one of the unit's DOs: of its cells.
use Rattle.std.proofs.Common.{◌≡◌, ℕ, zero, suc, ◌+◌, true, List, [], ◌∷◌, ◌++◌, map, drop, Option, Some, None, refl, sym, ap, ◌∙◌, subst, arith, slice_get}
use Rattle.std.specs.List.{flat_map}
use Rattle.std.specs.Option.{option_map, unwrap_or}
use Rattle.std.proofs.lemmas.Option.{same_Some}
use Rattle.hep_machine.specs.Words.{Tree, Trees, constant, occurrence, with_list, parenthesized, signed, negated, binary, no_trees, trees, trees_of, Target, Form, Statement, Name, Value, Meaning, element, pure, state, external, PrintItem, is_do, no_statement, statement_at, function_name, increment_of}
use Rattle.hep_source.specs.declared.statement.Form.TheVariants as form
use Rattle.hep_source.specs.declared.statement.PrintItem.TheVariants as item
use Rattle.hep_code.specs.declared.instruction.Instruction.{Instruction}
use Rattle.hep_code.specs.declared.instruction.Instruction.TheVariants.{Push, Step, To, Pass, Show}
use Rattle.hep_code.specs.declared.instruction.Operation.{Operation}
use Rattle.hep_code.specs.declared.instruction.Operation.TheVariants.{EndLoop}
use Rattle.hep_code.specs.declared.variable.Variable.{Variable}
use Rattle.hep_code.specs.Words.{AddressedUnit, actual_code, actual_listed_code, actual_name_code, actuals_code_in, argument_of, argument_of_target, asked_code, asked_listed_code, code_of, conditions_code, ending_of, form_code, item_code, listed_code, loop_end_code, name_code, names_of, operands_code, operation_code, passes, printed_of, statement_code, statements_code, table_of, target_code, tree_code, trees_code}
use Rattle.hep_accepted_laws.proofs.Members.{Each, each_append, each_none, each_one, has_first_or, has_more}

-- ---- what holds of the elements of lists

module _ {A : Type 0} {P : A → Type 0} where
  each-first : (x : A) (xs : List A) → P x → Each P xs → Each P (x ∷ xs)
  each-first x xs p each = each_append {xs = x ∷ []} {ys = xs} (each_one x p) each

  each-rest : (x : A) (xs : List A) → Each P (x ∷ xs) → Each P xs
  each-rest x xs each = record { at = λ y h. each.at y (has_more x xs y h) }

  each-flat : {B : Type 0} (f : B → List A) (ys : List B) → ((y : B) → Each P (f y)) → Each P (flat_map f ys)
  each-flat f [] each = each_none
  each-flat f (y ∷ ys) each = each_append {xs = f y} {ys = flat_map f ys} (each y) (each-flat f ys each)

  each-image : {B : Type 0} (f : B → A) (ys : List B) → ((y : B) → P (f y)) → Each P (map f ys)
  each-image f [] each = each_none
  each-image f (y ∷ ys) each = each-first (f y) (map f ys) (each y) (each-image f ys each)

-- ---- the ends of DOs

module _ (addressed : AddressedUnit) where
  -- these are the cells of a DO of the unit
  abbrev pub IsLoop : ℕ → Type 0
  IsLoop cells = (d : ℕ) × (is_do (statement_at addressed.unit d).form ≡ true) × (cells ≡ addressed.cells d)

  abbrev pub IsEndOf : Operation → Type 0
  IsEndOf (EndLoop x cells inside behind) = IsLoop cells
  IsEndOf _ = Unit {0}

  abbrev pub IsEnd : Instruction → Type 0
  IsEnd (Step line o) = IsEndOf o
  IsEnd _ = Unit {0}

  abbrev AreEnds : List Instruction → Type 0
  AreEnds code = Each IsEnd code

  one : (x : Instruction) → IsEnd x → AreEnds (x ∷ [])
  one x e = each_one x e

  both : (xs ys : List Instruction) → AreEnds xs → AreEnds ys → AreEnds (xs ++ ys)
  both xs ys f g = each_append {xs = xs} {ys = ys} f g

  -- ---- expressions have none

  name-ends : (line : ℕ) (o : Option Value) (x : Name) → AreEnds (name_code (names_of addressed) line o x)
  name-ends line None x = one _ tt
  name-ends line (Some v) x = one _ tt

  passes-ends : (ts : Trees) → AreEnds (passes (names_of addressed) ts)
  passes-ends no_trees = each_none
  passes-ends (trees t ts) = each-first (Pass (argument_of (names_of addressed) t)) (passes (names_of addressed) ts) tt (passes-ends ts)

  listed-ends : (m : Meaning) (line : ℕ) (x : Name) (ts : Trees) (list subscripts actuals : List Instruction) → AreEnds list → AreEnds subscripts → AreEnds actuals → AreEnds (listed_code (names_of addressed) m line x ts list subscripts actuals)
  listed-ends element line x ts list subscripts actuals f g h = both list _ f (one _ tt)
  listed-ends (pure k) line x ts list subscripts actuals f g h = both list _ f (one _ tt)
  listed-ends (state k) line x ts list subscripts actuals f g h = both subscripts _ g (one _ tt)
  listed-ends external line x ts list subscripts actuals f g h = both actuals _ h (each-first _ (passes (names_of addressed) ts) tt (passes-ends ts))

  subscripts-ends : (m : Meaning) (code : List Instruction) → AreEnds code → AreEnds (asked_listed_code m code)
  subscripts-ends element code h = h
  subscripts-ends (pure k) code h = each_none
  subscripts-ends (state k) code h = each_none
  subscripts-ends external code h = each_none

  actual-name-ends : (o : Option Value) → AreEnds (actual_name_code o)
  actual-name-ends None = each_none
  actual-name-ends (Some v) = one _ tt

  actual-listed-ends : (m : Meaning) (subscripts value : List Instruction) → AreEnds subscripts → AreEnds value → AreEnds (actual_listed_code m subscripts value)
  actual-listed-ends element subscripts value f g = f
  actual-listed-ends (pure k) subscripts value f g = g
  actual-listed-ends (state k) subscripts value f g = g
  actual-listed-ends external subscripts value f g = g

  mutual
    tree-ends : (line : ℕ) (t : Tree) → AreEnds (tree_code (names_of addressed) line t)
    tree-ends line (constant v) = one _ tt
    tree-ends line (occurrence p) = name-ends line ((names_of addressed).constants p.name) p.name
    tree-ends line (with_list p ts) = listed-ends ((names_of addressed).meanings p.name) line p.name ts _ _ _ (trees-ends line ts) (asked-ends line ts) (actuals-ends line ts)
    tree-ends line (parenthesized t) = tree-ends line t
    tree-ends line (signed s t) = both (tree_code (names_of addressed) line t) _ (tree-ends line t) (one _ tt)
    tree-ends line (negated t) = both (tree_code (names_of addressed) line t) _ (tree-ends line t) (one _ tt)
    tree-ends line (binary o a b) = both (tree_code (names_of addressed) line a ++ tree_code (names_of addressed) line b) _ (both (tree_code (names_of addressed) line a) _ (tree-ends line a) (tree-ends line b)) (one _ tt)

    trees-ends : (line : ℕ) (ts : Trees) → AreEnds (trees_code (names_of addressed) line ts)
    trees-ends line no_trees = each_none
    trees-ends line (trees t ts) = both (tree_code (names_of addressed) line t) _ (tree-ends line t) (trees-ends line ts)

    asked-ends : (line : ℕ) (ts : Trees) → AreEnds (asked_code (names_of addressed) line ts)
    asked-ends line no_trees = each_none
    asked-ends line (trees (constant v) ts) = each_none
    asked-ends line (trees (occurrence p) ts) = each_none
    asked-ends line (trees (with_list p us) no_trees) = subscripts-ends ((names_of addressed).meanings p.name) (trees_code (names_of addressed) line us) (trees-ends line us)
    asked-ends line (trees (with_list p us) (trees v vs)) = each_none
    asked-ends line (trees (parenthesized t) ts) = each_none
    asked-ends line (trees (signed s t) ts) = each_none
    asked-ends line (trees (negated t) ts) = each_none
    asked-ends line (trees (binary o a b) ts) = each_none

    actual-ends : (line : ℕ) (t : Tree) → AreEnds (actual_code (names_of addressed) line t)
    actual-ends line (constant v) = one _ tt
    actual-ends line (occurrence p) = actual-name-ends ((names_of addressed).constants p.name)
    actual-ends line (with_list p ts) =
        actual-listed-ends ((names_of addressed).meanings p.name) (trees_code (names_of addressed) line ts) _ (trees-ends line ts) (
        listed-ends ((names_of addressed).meanings p.name) line p.name ts _ _ _ (trees-ends line ts) (asked-ends line ts) (actuals-ends line ts))
    actual-ends line (parenthesized t) = tree-ends line t
    actual-ends line (signed s t) = both (tree_code (names_of addressed) line t) _ (tree-ends line t) (one _ tt)
    actual-ends line (negated t) = both (tree_code (names_of addressed) line t) _ (tree-ends line t) (one _ tt)
    actual-ends line (binary o a b) = both (tree_code (names_of addressed) line a ++ tree_code (names_of addressed) line b) _ (both (tree_code (names_of addressed) line a) _ (tree-ends line a) (tree-ends line b)) (one _ tt)

    actuals-ends : (line : ℕ) (ts : Trees) → AreEnds (actuals_code_in (names_of addressed) line ts)
    actuals-ends line no_trees = each_none
    actuals-ends line (trees t ts) = both (actual_code (names_of addressed) line t) _ (actual-ends line t) (actuals-ends line ts)

  -- ---- forms

  target-ends : (line : ℕ) (x : Target) → AreEnds (target_code (names_of addressed) line x)
  target-ends line x = trees-ends line (trees_of x.subscripts)

  item-ends : (line : ℕ) (i : PrintItem) → AreEnds (item_code (names_of addressed) line i)
  item-ends line (item.Expression t) = tree-ends line t
  item-ends line (item.Characters cs) = each_none

  operands-ends : (line : ℕ) (f : Form) → AreEnds (operands_code (table_of addressed) line f)
  operands-ends line (form.Assign x t) = both (tree_code (names_of addressed) line t) _ (tree-ends line t) (target-ends line x)
  operands-ends line (form.ComputedGoTo labels t) = tree-ends line t
  operands-ends line (form.ArithmeticIf t labels) = tree-ends line t
  operands-ends line (form.IfThen t) = tree-ends line t
  operands-ends line (form.ElseIf t) = tree-ends line t
  operands-ends line (form.Do c) =
      both (tree_code (names_of addressed) line c.initial) _ (tree-ends line c.initial) (
      both (tree_code (names_of addressed) line c.limit) _ (tree-ends line c.limit) (tree-ends line (increment_of c.increment)))
  operands-ends line (form.Call p ts) = each-flat (actual_code (names_of addressed) line) ts (actual-ends line)
  operands-ends line (form.Create p ts) = each-flat (actual_code (names_of addressed) line) ts (actual-ends line)
  operands-ends line (form.Purge targets) = each-flat (target_code (names_of addressed) line) targets (target-ends line)
  operands-ends line (form.Print items) = each-flat (item_code (names_of addressed) line) items (item-ends line)
  operands-ends line _ = each_none

  ending-ends : (o : Option Variable) → IsEndOf (ending_of o)
  ending-ends None = tt
  ending-ends (Some x) = tt

  operation-ends : (line k : ℕ) (f : Form) → AreEnds (operation_code (table_of addressed) line k f)
  operation-ends line k (form.ComputedGoTo labels t) = each-first _ _ tt (each-image (λ l. To ((table_of addressed).labels l)) labels (λ l. tt))
  operation-ends line k (form.Call p ts) = each-first _ _ tt (each-image (λ t. Pass (argument_of (names_of addressed) t)) ts (λ t. tt))
  operation-ends line k (form.Create p ts) = each-first _ _ tt (each-image (λ t. Pass (argument_of (names_of addressed) t)) ts (λ t. tt))
  operation-ends line k (form.Purge targets) = each-first _ _ tt (each-image (λ t. Pass (argument_of_target (names_of addressed) t)) targets (λ t. tt))
  operation-ends line k (form.Print items) = each-first _ _ tt (each-image (λ i. Show (printed_of i)) items (λ i. tt))
  operation-ends line k form.Return = one _ (ending-ends (option_map addressed.variables (function_name addressed.unit)))
  operation-ends line k form.End = one _ (ending-ends (option_map addressed.variables (function_name addressed.unit)))
  operation-ends line k _ = one _ tt

  form-ends : (line k : ℕ) (f : Form) → AreEnds (form_code (table_of addressed) line k f)
  form-ends line k f = both (operands_code (table_of addressed) line f) _ (operands-ends line f) (operation-ends line k f)

  -- ---- statements

  conditions-ends : (line k : ℕ) (ts : List Tree) (f : Form) → AreEnds (conditions_code (table_of addressed) line k ts f)
  conditions-ends line k [] f = form-ends line k f
  conditions-ends line k (t ∷ ts) f = both (tree_code (names_of addressed) line t) _ (tree-ends line t) (each-first _ _ tt (conditions-ends line k ts f))

  loop-ends : (d : ℕ) (f : Form) → (statement_at addressed.unit d).form ≡ f → AreEnds (loop_end_code (table_of addressed) d f)
  loop-ends d (form.Do c) is = one _ (d, ap is_do is, refl)
  loop-ends d _ is = each_none

  -- the statements from an index on
  abbrev AreFrom : ℕ → List Statement → Type 0
  AreFrom k ss = (j : ℕ) (s : Statement) → slice_get ss j ≡ Some s → statement_at addressed.unit (k + j) ≡ s

  statements-ends : (k : ℕ) (ss : List Statement) → AreFrom k ss → AreEnds (statements_code (table_of addressed) k ss)
  statements-ends k [] from = both (conditions_code (table_of addressed) no_statement.line k no_statement.conditions no_statement.form) _ (conditions-ends no_statement.line k no_statement.conditions no_statement.form) each_none
  statements-ends k (s ∷ ss) from =
      let here : k + 0 ≡ k = omega arith in
      let first : statement_at addressed.unit k ≡ s = ap (statement_at addressed.unit) (sym here) ∙ from 0 s refl in
      both (statement_code (table_of addressed) k s) _ (
      both (conditions_code (table_of addressed) s.line k s.conditions s.form) _ (conditions-ends s.line k s.conditions s.form) (loop-ends k s.form (ap (λ (z : Statement). z.form) first))) (
      statements-ends (suc k) ss (λ j z e. let next : suc k + j ≡ k + suc j = omega arith in ap (statement_at addressed.unit) next ∙ from (suc j) z e))

  pub code-ends : Each IsEnd (code_of addressed)
  unfolding code_of
  code-ends = statements-ends 0 addressed.unit (λ j s e. let same : 0 + j ≡ j = omega arith in ap (statement_at addressed.unit) same ∙ ap (λ o. unwrap_or o no_statement) e)

-- ---- one that stands ahead

abbrev pub HasEndIn : (ℕ → Type 0) → Operation → Type 0
HasEndIn IsSo (EndLoop x d inside behind) = IsSo d
HasEndIn IsSo o = Unit {0}

abbrev pub HasEndAhead : (ℕ → Type 0) → List Instruction → Type 0
HasEndAhead IsSo (Step line o ∷ is) = HasEndIn IsSo o
HasEndAhead IsSo is = Unit {0}

end-here : (addressed : AddressedUnit) (o : Operation) → IsEndOf addressed o → HasEndIn (IsLoop addressed) o
end-here addressed (EndLoop x d inside behind) h = h
end-here addressed _ h = tt

end-first : (addressed : AddressedUnit) (i : Instruction) (is : List Instruction) → IsEnd addressed i → HasEndAhead (IsLoop addressed) (i ∷ is)
end-first addressed (Step line o) is h = end-here addressed o h
end-first addressed _ is h = tt

pub end-ahead : (addressed : AddressedUnit) (code : List Instruction) → Each (IsEnd addressed) code → (i : ℕ) → HasEndAhead (IsLoop addressed) (drop i code)
end-ahead addressed [] each zero = tt
end-ahead addressed [] each (suc i) = tt
end-ahead addressed (x ∷ xs) each zero = end-first addressed x xs (each.at x (zero, refl))
end-ahead addressed (x ∷ xs) each (suc i) = end-ahead addressed xs (each-rest x xs each) i
