-- So many operands as there are in front of an instruction are just those that are taken from there on; and the deepest stack of operands
-- of code, and one pass that finds it.
use Rattle.std.proofs.Common.{◌≡◌, ℕ, suc, ◌+◌, ◌-◌, ◌≤◌, List, [], ◌∷◌, ◌++◌, map, length, take, Option, Some, None, refl, ap, sym, ◌∙◌, subst, arith, append_assoc, zero, Bool, true, false, drop, nat_lt, if◌then◌else◌}
use Rattle.std.specs.List.{flat_map}
use Rattle.std.proofs.Math.Seq.{take-append_seam}
use Rattle.std.proofs.lemmas.List.{length-map, drop_all}
use Rattle.hep_machine.specs.Words.{Tree, Trees, constant, occurrence, with_list, parenthesized, signed, negated, binary, no_trees, trees, trees_of, Name, Occurrence, DoControl, Form, PrintItem, Value, line_at, increment_of, Meaning, element, pure, state, external, Work, doing, ending}
use Rattle.hep_source.specs.declared.statement.Form.TheVariants as form
use Rattle.hep_source.specs.declared.statement.PrintItem.TheVariants as item
use Rattle.hep_code.specs.declared.instruction.Evaluation.{Evaluation}
use Rattle.hep_code.specs.declared.instruction.Evaluation.TheVariants.{Load, Sign, Not, Combine, Apply, Test}
use Rattle.hep_code.specs.declared.instruction.Instruction.{Instruction}
use Rattle.hep_code.specs.declared.instruction.Instruction.TheVariants.{Push, Step, Pass, Show}
use Rattle.hep_code.specs.declared.variable.Variable.{Variable}
use Rattle.hep_code.specs.declared.instruction.Operation.TheVariants.{Evaluate, Refer, Condition}
use Rattle.hep_code.specs.Words.{actuals_code_in, ending_of, passes, arity, count, asked, asked_listed, asked_listed_code, asked_code, name_code, listed_code, tree_code, trees_code, evaluating, actual_code, actual_name_code, actual_listed_code, argument_of, argument_of_name, argument_of_listed, target_code, argument_of_target, item_code, printed_of}
use Rattle.hep_code.specs.Words.{control_code, operation_code, form_code, conditions_code, work_code, Stands, NameTable, Table, AddressedUnit, table_of, code_of, operands_passed, operands_shown, operands_of_entries, operands_of_entry, operands_by, operands_ahead, operands_before, deeper, deepest, line_before}
use Rattle.hep_code.specs.Words.{line_ahead, line_too_deep, values_ahead, most_operands}
use Rattle.std.proofs.lemmas.Bool.Decides.{nat_tests}

-- h operands are taken by these instructions, up to an operation that takes all that are there
abbrev pub Takes : ℕ → List Instruction → Type 0
Takes h [] = ⊥
Takes h (Push v ∷ is) = Takes (suc h) is
Takes h (Step line (Evaluate e) ∷ is) = (arity e ≤ h) × Takes (suc (h - arity e)) is
Takes h (Step line (Refer u count) ∷ is) = (operands_of_entries (take count is) ≤ h) × Takes (suc (h - operands_of_entries (take count is))) is
Takes h (Pass a ∷ is) = Takes h is
Takes h (Step line o ∷ is) = h ≡ operands_by o 0 is
Takes h (_ ∷ is) = ⊥

pub takes_are : (h : ℕ) (is : List Instruction) → Takes h is → h ≡ operands_ahead is
takes_are h [] t = elim t [ ]
takes_are h (Push v ∷ is) t = omega (arith, takes_are (suc h) is t)
takes_are h (Step line (Evaluate e) ∷ is) t = omega (arith, t.0, takes_are (suc (h - arity e)) is t.1)
takes_are h (Step line (Refer u count) ∷ is) t = omega (arith, t.0, takes_are (suc (h - operands_of_entries (take count is))) is t.1)
takes_are h (Pass a ∷ is) t = takes_are h is t
takes_are h (Step line _ ∷ is) t = t
takes_are h (_ ∷ is) t = elim t [ ]

-- ---- operands that are there

pub after_pushes : (h n : ℕ) (vs : List Value) (is : List Instruction) → n ≡ h + length vs → Takes h (map Push vs ++ is) → Takes n is
after_pushes h n [] is e t = let f : h ≡ n = omega (arith, e) in subst (λ m. Takes m is) f t
after_pushes h n (v ∷ vs) is e t = after_pushes (suc h) n vs is (omega (arith, e)) t

-- ---- expressions

evaluated : (line h m : ℕ) (e : Evaluation) (is : List Instruction) → m ≡ arity e + h → Takes (suc h) is → Takes m (evaluating line e ++ is)
evaluated line h m e is f t = (omega (arith, f), let g : suc h ≡ suc (m - arity e) = omega (arith, f) in subst (λ n. Takes n is) g t)

turned : (h : ℕ) (xs ys is : List Instruction) → Takes h (xs ++ (ys ++ is)) → Takes h ((xs ++ ys) ++ is)
turned h xs ys is t = subst (Takes h) (sym (append_assoc xs ys is)) t

first_entries : (n : ℕ) (es is : List Instruction) → n ≡ length es → take n (es ++ is) ≡ es
first_entries n es is e = ap (λ k. take k (es ++ is)) e ∙ take-append_seam es is

module _ (names : NameTable) (line : ℕ) where
  name_takes : (o : Option Value) (x : Name) (h : ℕ) (is : List Instruction) → Takes (suc h) is → Takes h (name_code names line o x ++ is)
  name_takes None x h is t = evaluated line h h (Load (names.variables x) 0) is (omega arith) t
  name_takes (Some v) x h is t = t

  -- what is asked takes as many as its subscripts are
  abbrev AllTake : Trees → Type 0
  AllTake ts = (h m : ℕ) (is : List Instruction) → m ≡ count ts + h → Takes m is → Takes h (trees_code names line ts ++ is)

  abbrev AskedTakes : Trees → Type 0
  AskedTakes ts = (h m : ℕ) (is : List Instruction) → m ≡ (asked names ts).1 + h → Takes m is → Takes h (asked_code names line ts ++ is)

  nothing_takes : (h n : ℕ) (is : List Instruction) → n ≡ 0 + h → Takes n is → Takes h is
  nothing_takes h n is e t = let d : n ≡ h = omega (arith, e) in subst (λ k. Takes k is) d t

  asked_takes : (m : Meaning) (x : Name) (ts : Trees) → AllTake ts → (h n : ℕ) (is : List Instruction) → n ≡ (asked_listed m x (count ts)).1 + h → Takes n is → Takes h (asked_listed_code m (trees_code names line ts) ++ is)
  asked_takes element x ts all h n is e t = all h n is e t
  asked_takes _ x ts all h n is e t = nothing_takes h n is e t

  -- actual arguments take as many as stand behind the operation of them
  abbrev ActualsTake : Trees → Type 0
  ActualsTake ts = (h m : ℕ) (is : List Instruction) → m ≡ operands_of_entries (passes names ts) + h → Takes m is → Takes h (actuals_code_in names line ts ++ is)

  passes_length : (ts : Trees) → length (passes names ts) ≡ count ts
  passes_length no_trees = refl
  passes_length (trees t ts) = ap suc (passes_length ts)

  passed_over : (ts : Trees) (h : ℕ) (is : List Instruction) → Takes h is → Takes h (passes names ts ++ is)
  passed_over no_trees h is t = t
  passed_over (trees a ts) h is t = passed_over ts h is t

  referred : (h f : ℕ) (ts : Trees) (is : List Instruction) → Takes (suc h) is → Takes (operands_of_entries (passes names ts) + h) (Step line (Refer f (count ts)) ∷ (passes names ts ++ is))
  referred h f ts is t =
      let n = operands_of_entries (passes names ts) in
      let e : operands_of_entries (take (count ts) (passes names ts ++ is)) ≡ n = ap operands_of_entries (first_entries (count ts) (passes names ts) is (sym (passes_length ts))) in
      let g : suc h ≡ suc ((n + h) - operands_of_entries (take (count ts) (passes names ts ++ is))) = omega (arith, e) in
      (omega (arith, e), subst (λ k. Takes k (passes names ts ++ is)) g (passed_over ts (suc h) is t))

  listed_takes : (m : Meaning) (x : Name) (ts : Trees) → AllTake ts → AskedTakes ts → ActualsTake ts → (h : ℕ) (is : List Instruction) → Takes (suc h) is
      → Takes h (listed_code names m line x ts (trees_code names line ts) (asked_code names line ts) (actuals_code_in names line ts) ++ is)
  listed_takes element x ts all some actuals h is t =
      let e = Load (names.variables x) (count ts) in
      turned h (trees_code names line ts) (evaluating line e) is (all h (count ts + h) (evaluating line e ++ is) refl (evaluated line h (count ts + h) e is refl t))
  listed_takes (pure f) x ts all some actuals h is t =
      let e = Apply f (count ts) in
      turned h (trees_code names line ts) (evaluating line e) is (all h (count ts + h) (evaluating line e ++ is) refl (evaluated line h (count ts + h) e is refl t))
  listed_takes (state f) x ts all some actuals h is t =
      let n = (asked names ts).1 in
      let e = Test f (names.variables (asked names ts).0) (asked names ts).1 in
      turned h (asked_code names line ts) (evaluating line e) is (some h (n + h) (evaluating line e ++ is) refl (evaluated line h (n + h) e is refl t))
  listed_takes external x ts all some actuals h is t =
      let n = operands_of_entries (passes names ts) in
      turned h (actuals_code_in names line ts) (Step line (Refer (names.functions x) (count ts)) ∷ passes names ts) is (
      actuals h (n + h) (Step line (Refer (names.functions x) (count ts)) ∷ (passes names ts ++ is)) refl (referred h (names.functions x) ts is t))

  -- one that is an expression
  one_more : (h m : ℕ) (is : List Instruction) → m ≡ 1 + h → Takes m is → Takes (suc h) is
  one_more h m is e u = let d : m ≡ suc h = omega (arith, e) in subst (λ n. Takes n is) d u

  actual_name_takes : (o : Option Value) (x : Name) (h m : ℕ) (is : List Instruction) → m ≡ operands_passed (argument_of_name names o x) + h → Takes m is → Takes h (actual_name_code o ++ is)
  actual_name_takes None x h m is e u = nothing_takes h m is e u
  actual_name_takes (Some v) x h m is e u = one_more h m is e u

  actual_listed_takes : (meaning : Meaning) (p : Occurrence) (ts : Trees) → AllTake ts → AskedTakes ts → ActualsTake ts → (h m : ℕ) (is : List Instruction) → m ≡ operands_passed (argument_of_listed names meaning p.name (count ts)) + h → Takes m is
      → Takes h (actual_listed_code meaning (trees_code names line ts) (listed_code names meaning line p.name ts (trees_code names line ts) (asked_code names line ts) (actuals_code_in names line ts)) ++ is)
  actual_listed_takes element p ts all some actuals h m is e u = all h m is e u
  actual_listed_takes (pure f) p ts all some actuals h m is e u = listed_takes (pure f) p.name ts all some actuals h is (one_more h m is e u)
  actual_listed_takes (state f) p ts all some actuals h m is e u = listed_takes (state f) p.name ts all some actuals h is (one_more h m is e u)
  actual_listed_takes external p ts all some actuals h m is e u = listed_takes external p.name ts all some actuals h is (one_more h m is e u)

  mutual
    pub tree_takes : (t : Tree) (h : ℕ) (is : List Instruction) → Takes (suc h) is → Takes h (tree_code names line t ++ is)
    tree_takes (constant v) h is t = t
    tree_takes (occurrence p) h is t = name_takes (names.constants p.name) p.name h is t
    tree_takes (with_list p ts) h is t = listed_takes (names.meanings p.name) p.name ts (trees_take ts) (some_takes ts) (actuals_take ts) h is t
    tree_takes (parenthesized a) h is t = tree_takes a h is t
    tree_takes (signed s a) h is t =
        turned h (tree_code names line a) (evaluating line (Sign s)) is (tree_takes a h (evaluating line (Sign s) ++ is) (evaluated line h (suc h) (Sign s) is (omega arith) t))
    tree_takes (negated a) h is t =
        turned h (tree_code names line a) (evaluating line Not) is (tree_takes a h (evaluating line Not ++ is) (evaluated line h (suc h) Not is (omega arith) t))
    tree_takes (binary o a b) h is t =
        let e = evaluating line (Combine o) in
        turned h (tree_code names line a ++ tree_code names line b) e is (turned h (tree_code names line a) (tree_code names line b) (e ++ is)
        (tree_takes a h (tree_code names line b ++ (e ++ is)) (tree_takes b (suc h) (e ++ is) (evaluated line h (suc (suc h)) (Combine o) is (omega arith) t))))

    pub trees_take : (ts : Trees) → AllTake ts
    trees_take no_trees h m is e t = nothing_takes h m is e t
    trees_take (trees a ts) h m is e t =
        turned h (tree_code names line a) (trees_code names line ts) is (tree_takes a h (trees_code names line ts ++ is) (trees_take ts (suc h) m is (omega (arith, e)) t))

    pub some_takes : (ts : Trees) → AskedTakes ts
    some_takes (trees (with_list p us) no_trees) h m is e t = asked_takes (names.meanings p.name) p.name us (trees_take us) h m is e t
    some_takes (trees (occurrence p) no_trees) h m is e t = nothing_takes h m is e t
    some_takes _ h m is e t = nothing_takes h m is e t

    pub actual_takes : (t : Tree) (h m : ℕ) (is : List Instruction) → m ≡ operands_passed (argument_of names t) + h → Takes m is → Takes h (actual_code names line t ++ is)
    actual_takes (constant v) h m is e u = one_more h m is e u
    actual_takes (occurrence p) h m is e u = actual_name_takes (names.constants p.name) p.name h m is e u
    actual_takes (with_list p ts) h m is e u = actual_listed_takes (names.meanings p.name) p ts (trees_take ts) (some_takes ts) (actuals_take ts) h m is e u
    actual_takes (parenthesized a) h m is e u = tree_takes a h is (one_more h m is e u)
    actual_takes (signed s a) h m is e u =
        turned h (tree_code names line a) (evaluating line (Sign s)) is (tree_takes a h (evaluating line (Sign s) ++ is) (evaluated line h (suc h) (Sign s) is (omega arith) (one_more h m is e u)))
    actual_takes (negated a) h m is e u =
        turned h (tree_code names line a) (evaluating line Not) is (tree_takes a h (evaluating line Not ++ is) (evaluated line h (suc h) Not is (omega arith) (one_more h m is e u)))
    actual_takes (binary o a b) h m is e u =
        let f = evaluating line (Combine o) in
        turned h (tree_code names line a ++ tree_code names line b) f is (turned h (tree_code names line a) (tree_code names line b) (f ++ is)
        (tree_takes a h (tree_code names line b ++ (f ++ is)) (tree_takes b (suc h) (f ++ is) (evaluated line h (suc (suc h)) (Combine o) is (omega arith) (one_more h m is e u)))))

    pub actuals_take : (ts : Trees) → ActualsTake ts
    actuals_take no_trees h m is e u = nothing_takes h m is e u
    actuals_take (trees a ts) h m is e u =
        let n = operands_passed (argument_of names a) + h in
        turned h (actual_code names line a) (actuals_code_in names line ts) is (actual_takes a h n (actuals_code_in names line ts ++ is) refl (actuals_take ts n m is (omega (arith, e)) u))

  -- ---- lists

  value_takes : (t : Tree) (h m : ℕ) (is : List Instruction) → m ≡ 1 + h → Takes m is → Takes h (tree_code names line t ++ is)
  value_takes t h m is e u = let d : m ≡ suc h = omega (arith, e) in tree_takes t h is (subst (λ n. Takes n is) d u)

  item_takes : (i : PrintItem) (h m : ℕ) (is : List Instruction) → m ≡ operands_shown (printed_of i) + h → Takes m is → Takes h (item_code names line i ++ is)
  item_takes (item.Expression t) h m is e u = value_takes t h m is e u
  item_takes (item.Characters cs) h m is e u = nothing_takes h m is e u

  -- the code of a list, by what each of it takes
  list_takes : {T : Type 0} (entry : T → Instruction) (c : T → List Instruction) → ((t : T) (h m : ℕ) (is : List Instruction) → m ≡ operands_of_entry (entry t) + h → Takes m is → Takes h (c t ++ is))
      → (ts : List T) (h m : ℕ) (is : List Instruction) → m ≡ operands_of_entries (map entry ts) + h → Takes m is → Takes h (flat_map c ts ++ is)
  list_takes entry c each [] h m is e u = nothing_takes h m is e u
  list_takes entry c each (t ∷ ts) h m is e u =
      let n = operands_of_entry (entry t) + h in
      turned h (c t) (flat_map c ts) is (each t h n (flat_map c ts ++ is) refl (list_takes entry c each ts n m is (omega (arith, e)) u))

  control_takes : (c : DoControl) (is : List Instruction) → Takes 3 is → Takes 0 (control_code names line c ++ is)
  control_takes c is u =
      let a = tree_code names line c.initial in
      let b = tree_code names line c.limit in
      let d = tree_code names line (increment_of c.increment) in
      turned 0 a (b ++ d) is (tree_takes c.initial 0 ((b ++ d) ++ is) (turned 1 b d is (tree_takes c.limit 1 (d ++ is) (tree_takes (increment_of c.increment) 2 is u))))

-- ---- statements

-- an operation takes those of as many entries behind it as it has
entries_taken : (n m : ℕ) (es is : List Instruction) → n ≡ operands_of_entries es + 0 → m ≡ length es → n ≡ operands_of_entries (take m (es ++ is))
entries_taken n m es is e f = omega (arith, e, ap operands_of_entries (first_entries m es is f))

module _ (table : Table) (line k : ℕ) where
  -- an expression, and then an operation of one operand
  one_takes : (t : Tree) (after is : List Instruction) → Takes 1 (after ++ is) → Takes 0 ((tree_code table.names line t ++ after) ++ is)
  one_takes t after is u = turned 0 (tree_code table.names line t) after is (tree_takes table.names line t 0 (after ++ is) u)

  -- a list, and then an operation that has an entry for each of it
  entries_take : {T : Type 0} (entry : T → Instruction) (c : T → List Instruction) → ((t : T) (h m : ℕ) (is : List Instruction) → m ≡ operands_of_entry (entry t) + h → Takes m is → Takes h (c t ++ is))
      → (ts : List T) (after is : List Instruction) → ((n : ℕ) → n ≡ operands_of_entries (take (length ts) (map entry ts ++ is)) → Takes n (after ++ is)) → Takes 0 ((flat_map c ts ++ after) ++ is)
  entries_take entry c each ts after is takes =
      let n = operands_of_entries (map entry ts) + 0 in
      turned 0 (flat_map c ts) after is (list_takes table.names line entry c each ts 0 n (after ++ is) refl (takes n (entries_taken n (length ts) (map entry ts) is refl (sym (length-map ts entry)))))

  by_result : (o : Option Variable) (is : List Instruction) → Takes 0 (Step line (ending_of o) ∷ is)
  by_result None is = refl
  by_result (Some x) is = refl

  form_takes : (f : Form) (is : List Instruction) → Takes 0 (form_code table line k f ++ is)
  form_takes (form.Assign x t) is =
      let store = operation_code table line k (form.Assign x t) in
      let subscripts = target_code table.names line x in
      turned 0 (tree_code table.names line t ++ subscripts) store is (turned 0 (tree_code table.names line t) subscripts (store ++ is)
      (tree_takes table.names line t 0 (subscripts ++ (store ++ is)) (trees_take table.names line (trees_of x.subscripts) 1 (count (trees_of x.subscripts) + 1) (store ++ is) refl (omega arith))))
  form_takes (form.ComputedGoTo labels t) is = one_takes t (operation_code table line k (form.ComputedGoTo labels t)) is refl
  form_takes (form.ArithmeticIf t labels) is = one_takes t (operation_code table line k (form.ArithmeticIf t labels)) is refl
  form_takes (form.IfThen t) is = one_takes t (operation_code table line k (form.IfThen t)) is refl
  form_takes (form.ElseIf t) is = one_takes t (operation_code table line k (form.ElseIf t)) is refl
  form_takes (form.Do c) is =
      let entry = operation_code table line k (form.Do c) in
      turned 0 (control_code table.names line c) entry is (control_takes table.names line c (entry ++ is) refl)
  form_takes (form.Call p ts) is =
      entries_take (λ t. Pass (argument_of table.names t)) (actual_code table.names line) (actual_takes table.names line) ts (operation_code table line k (form.Call p ts)) is (λ n e. e)
  form_takes (form.Create p ts) is =
      entries_take (λ t. Pass (argument_of table.names t)) (actual_code table.names line) (actual_takes table.names line) ts (operation_code table line k (form.Create p ts)) is (λ n e. e)
  form_takes (form.Purge ts) is =
      entries_take (λ t. Pass (argument_of_target table.names t)) (target_code table.names line) (λ t. trees_take table.names line (trees_of t.subscripts)) ts (operation_code table line k (form.Purge ts)) is (λ n e. e)
  form_takes (form.Print items) is =
      entries_take (λ i. Show (printed_of i)) (item_code table.names line) (item_takes table.names line) items (operation_code table line k (form.Print items)) is (λ n e. e)
  form_takes form.Return is = by_result table.result is
  form_takes form.End is = by_result table.result is
  form_takes _ is = refl

  conditions_take : (ts : List Tree) (f : Form) (is : List Instruction) → Takes 0 (conditions_code table line k ts f ++ is)
  conditions_take [] f is = form_takes f is
  conditions_take (t ∷ ts) f is = one_takes t (Step line (Condition (table.flows k).next) ∷ conditions_code table line k ts f) is refl

pub work_takes : (addressed : AddressedUnit) (k : ℕ) (work : Work) (is : List Instruction) → Takes 0 (work_code addressed k work ++ is)
work_takes addressed k (doing ts f) is = conditions_take (table_of addressed) (line_at addressed.unit k) k ts f is
work_takes addressed k (ending d) is = refl

-- ---- the deepest stack

by_test : (b : Bool) (m n : ℕ) → nat_lt m n ≡ b → (n ≤ (if b then n else m)) × (m ≤ (if b then n else m))
by_test true m n e = (omega arith, grind (arith, nat_tests))
by_test false m n e = (grind (arith, nat_tests), omega arith)

deepest_behind : (x : Instruction) (is : List Instruction) → deepest is ≤ deepest (x ∷ is)
deepest_behind x is = (by_test (nat_lt (deepest is) (operands_ahead (x ∷ is))) (deepest is) (operands_ahead (x ∷ is)) refl).1

deepest_first : (is : List Instruction) → operands_ahead is ≤ deepest is
deepest_first [] = omega arith
deepest_first (x ∷ is) = (by_test (nat_lt (deepest is) (operands_ahead (x ∷ is))) (deepest is) (operands_ahead (x ∷ is)) refl).0

-- so many operands and the values that stand ahead
within : (h : ℕ) (is : List Instruction) → Takes h is → h + values_ahead is ≤ deepest is
within h [] t = elim t [ ]
within h (Push v ∷ is) t = omega (arith, within (suc h) is t, deepest_behind (Push v) is)
within h (Step line o ∷ is) t = omega (arith, takes_are h (Step line o ∷ is) t, deepest_first (Step line o ∷ is))
within h (Pass a ∷ is) t = omega (arith, takes_are h (Pass a ∷ is) t, deepest_first (Pass a ∷ is))
within h (_ ∷ is) t = elim t [ ]

deepest_rest : (is : List Instruction) (i : ℕ) → deepest (drop i is) ≤ deepest is
deepest_rest [] i = let e : deepest (drop i []) ≡ 0 = ap deepest (drop_all i [] (omega arith)) in omega (arith, e)
deepest_rest (x ∷ is) zero = omega arith
deepest_rest (x ∷ is) (suc i) = omega (arith, deepest_rest is i, deepest_behind x is)

-- an activation's operands, with the values that stand ahead
pub room_for : (addressed : AddressedUnit) (k : ℕ) (work : Work) (operands : List Value) (index : ℕ) → Stands addressed k work operands index
    → length operands + values_ahead (drop index (code_of addressed)) ≤ deepest (code_of addressed)
room_for addressed k work operands index s =
    let t = after_pushes 0 (length operands) operands (drop index (code_of addressed)) (omega arith) (subst (Takes 0) s.same (work_takes addressed k work s.rest)) in
    omega (arith, within (length operands) (drop index (code_of addressed)) t, deepest_rest (code_of addressed) index)

pub stands_within : (code : List Instruction) (addressed : AddressedUnit) (k : ℕ) (work : Work) (operands : List Value) (index : ℕ) → code ≡ code_of addressed → Stands addressed k work operands index → length operands ≤ deepest code
stands_within code addressed k work operands index e s = omega (arith, room_for addressed k work operands index s, ap deepest e)

few_by : (b c : Bool) (n m line : ℕ) (rest : Option ℕ) → nat_lt most_operands n ≡ b → nat_lt m n ≡ c → (rest ≡ None → m ≤ most_operands) → (if b then Some line else rest) ≡ None → (if c then n else m) ≤ most_operands
few_by true c n m line rest e f h is = absurd cc
few_by false true n m line rest e f h is = grind (arith, nat_tests)
few_by false false n m line rest e f h is = h is

pub few_when_none : (code : List Instruction) → line_too_deep code ≡ None → deepest code ≤ most_operands
few_when_none [] e = omega arith
few_when_none (x ∷ is) e = few_by (nat_lt most_operands (operands_ahead (x ∷ is))) (nat_lt (deepest is) (operands_ahead (x ∷ is))) (operands_ahead (x ∷ is)) (deepest is) (line_ahead (x ∷ is)) (line_too_deep is) refl refl (few_when_none is) e

-- all of a list, from its end
pub whole : {A : Type 0} (xs : List A) (n : ℕ) → length xs ≤ n → drop (length xs - n) xs ≡ xs
whole xs n h = let e : length xs - n ≡ 0 = omega (arith, h) in ap (λ k. drop k xs) e

-- ---- one pass over code from its end

rest_is : {A : Type 0} (xs : List A) (i : ℕ) (x : A) (rest : List A) → drop i xs ≡ x ∷ rest → drop (suc i) xs ≡ rest
rest_is [] i x rest e = absurd (let f = sym (drop_all i [] (omega arith)) ∙ e in cc)
rest_is (y ∷ ys) zero x rest e = cc
rest_is (y ∷ ys) (suc i) x rest e = rest_is ys i x rest e

-- what is known of the instructions from an index on
pub record Known (code : List Instruction) (index operands line most : ℕ) (too_deep : Option ℕ) : Type 0 where
  pub operands_are : operands ≡ operands_ahead (drop index code)
  pub line_is : line ≡ line_ahead (drop index code)
  pub most_is : most ≡ deepest (drop index code)
  pub too_deep_is : too_deep ≡ line_too_deep (drop index code)

-- nothing is known of those past the end
pub known_past : (code : List Instruction) (index : ℕ) → drop index code ≡ [] → Known code index 0 0 0 None
known_past code index e =
    record {
      operands_are = sym (ap operands_ahead e);
      line_is = sym (ap line_ahead e);
      most_is = sym (ap deepest e);
      too_deep_is = sym (ap line_too_deep e);
    }

pub known_more : (code : List Instruction) (after index : ℕ) (first : Instruction) (behind : List Instruction) (o l m o' l' m' : ℕ) (t t' : Option ℕ) → after ≡ suc index → drop index code ≡ first ∷ behind → Known code after o l m t
    → o' ≡ operands_before first o behind → l' ≡ line_before first l → m' ≡ deeper m o' → t' ≡ (if nat_lt most_operands o' then Some l' else t) → Known code index o' l' m' t'
known_more code after index first behind o l m o' l' m' t t' next here k oe le me te =
    let r : drop after code ≡ behind = ap (λ i. drop i code) next ∙ rest_is code index first behind here in
    let a : o' ≡ operands_ahead (first ∷ behind) = oe ∙ ap (λ n. operands_before first n behind) (k.operands_are ∙ ap operands_ahead r) in
    let b : l' ≡ line_ahead (first ∷ behind) = le ∙ ap (line_before first) (k.line_is ∙ ap line_ahead r) in
    let c : m' ≡ deepest (first ∷ behind) = me ∙ ap (λ n. deeper n o') (k.most_is ∙ ap deepest r) ∙ ap (deeper (deepest behind)) a in
    let d : t' ≡ line_too_deep (first ∷ behind) = te ∙ ap (λ u. if nat_lt most_operands o' then Some l' else u) (k.too_deep_is ∙ ap line_too_deep r) ∙ ap (λ n. if nat_lt most_operands n then Some l' else line_too_deep behind) a ∙ ap (λ n. if nat_lt most_operands (operands_ahead (first ∷ behind)) then Some n else line_too_deep behind) b in
    record {
      operands_are = a ∙ sym (ap operands_ahead here);
      line_is = b ∙ sym (ap line_ahead here);
      most_is = c ∙ sym (ap deepest here);
      too_deep_is = d ∙ sym (ap line_too_deep here);
    }
