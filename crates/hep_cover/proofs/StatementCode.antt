-- The operations of a statement in its code, and those of each line's statement in the code of a unit.
use Rattle.std.proofs.Common.{◌≡◌, ℕ, zero, suc, ◌+◌, ◌<◌, ◌≤◌, List, [], ◌∷◌, ◌++◌, map, length, drop, Option, Some, None, refl, sym, ap, ◌∙◌, subst, arith, append_assoc, append-nil, get_or}
use Rattle.std.specs.List.{flat_map}
use Rattle.std.specs.Option.{unwrap_or}
use Rattle.std.proofs.lemmas.List.{drop_all}
use Rattle.std.proofs.lemmas.Option.{slice_get-get_or}
use Rattle.hep_source.proofs.Tests.{drop_at}
use Rattle.hep_machine.specs.Words.{Tree, Trees, constant, occurrence, with_list, parenthesized, signed, negated, binary, no_trees, trees, trees_of, no_statement, Form, Statement, Target, DoControl, PrintItem, Value, Name, Meaning, element, pure, state, external, Work, doing, ending, constant_value, increment_of, line_at, listed_meaning, unit_at, Units}
use Rattle.hep_source.specs.declared.statement.Form.TheVariants as form
use Rattle.hep_source.specs.declared.statement.PrintItem.TheVariants as item
use Rattle.hep_code.specs.declared.instruction.Evaluation.{Evaluation}
use Rattle.hep_code.specs.declared.instruction.Instruction.{Instruction}
use Rattle.hep_code.specs.declared.instruction.Instruction.TheVariants.{Push, Step, To, Pass, Show}
use Rattle.hep_code.specs.declared.instruction.Operation.{Operation}
use Rattle.hep_code.specs.declared.instruction.Operation.TheVariants.{Condition, Evaluate, Refer}
use Rattle.hep_code.specs.Words.{AddressedUnit, Stands, addressed_unit, Table, actual_code, actual_listed_code, actual_name_code, actuals_code_in, argument_of, argument_of_target, asked_code, asked_listed_code, code_of, conditions_code, control_code, count, ending_of, evaluating, item_code, listed_code, loop_end_code, name_code, names_of, operands_code, operation_code, passes, printed_of, statement_code, statements_code, table_of, target_code, tree_code, trees_code, work_code, NameTable}
use Rattle.hep_code.specs.declared.variable.Variable.{Variable}
use Rattle.hep_image.specs.Places.{addresses_of}
use Rattle.hep_cover.specs.RemainingOperations.{ahead_by, noted, noted_by, noted_from, operations_ahead}
use Rattle.hep_cover.specs.StatementStarts.{operations_in, operations_in_unit, with_line}
use Rattle.hep_cover.specs.OperationCounts.{in_actual, in_actuals, in_asked, in_control, in_item, in_operands, in_statement, in_target, in_tree, in_trees, left_of, of_actual, of_asked, of_listed, of_name, total}
use Rattle.hep_state.proofs.Runs.{set-again}

-- ---- lists by lines

line-again : (xs : List ℕ) (line x y : ℕ) → with_line (with_line xs line x) line y ≡ with_line xs line y
line-again xs zero x y = refl
line-again xs (suc i) x y = set-again xs i x y

-- ---- code of one line

-- so many operations stand ahead, and those of its line are noted last
pub record Has (line n : ℕ) (found its : List ℕ) (code : List Instruction) : Type 0 where
  pub ahead : operations_ahead code ≡ n
  pub notes : noted_from code found ≡ with_line its line n

module _ (line : ℕ) (found its : List ℕ) where
  -- code with so many operations that give values, in front of more code
  abbrev pub More : List Instruction → ℕ → Type 0
  More code m = (n : ℕ) (rest : List Instruction) → Has line n found its rest → Has line (m + n) found its (code ++ rest)

  recounted : (m n : ℕ) (code : List Instruction) → m ≡ n → Has line m found its code → Has line n found its code
  recounted m n code e h = subst (λ k. Has line k found its code) e h

  placed : (n : ℕ) (code other : List Instruction) → code ≡ other → Has line n found its code → Has line n found its other
  placed n code other e h = subst (λ is. Has line n found its is) e h

  nothing : More [] 0
  nothing n rest h = recounted n (0 + n) rest (omega arith) h

  pushed : (v : Value) → More (Push v ∷ []) 0
  pushed v n rest h = recounted n (0 + n) (Push v ∷ rest) (omega arith) (record { ahead = h.ahead; notes = h.notes })

  both : (c d : List Instruction) (m k : ℕ) → More c m → More d k → More (c ++ d) (m + k)
  both c d m k f g n rest h =
      placed ((m + k) + n) (c ++ (d ++ rest)) ((c ++ d) ++ rest) (sym (append_assoc c d rest)) (
      recounted (m + (k + n)) ((m + k) + n) (c ++ (d ++ rest)) (omega arith) (f (k + n) (d ++ rest) (g n rest h)))

  -- an operation that has more behind it
  after : (o : Operation) (n : ℕ) (rest : List Instruction) → ahead_by o (operations_ahead rest) ≡ suc (operations_ahead rest)
      → noted_by o line (suc (operations_ahead rest)) (noted_from rest found)
      ≡ with_line (noted_from rest found) line (suc (operations_ahead rest))
      → Has line n found its rest → Has line (suc n) found its (Step line o ∷ rest)
  after o n rest counts notes h = record {
    ahead = counts ∙ ap suc h.ahead;
    notes =
        (λ i. noted_by o line (counts i) (noted_from rest found)) ∙ notes
        ∙ (λ i. with_line (h.notes i) line (suc (h.ahead i))) ∙ line-again its line n (suc n);
  }

  -- one that gives a value, behind its operands
  one : (e : Evaluation) → More (evaluating line e) 1
  one e n rest h = recounted (suc n) (1 + n) (Step line (Evaluate e) ∷ rest) (omega arith) (after (Evaluate e) n rest refl refl h)

  -- actual arguments stand behind a reference
  passed : (addressed : AddressedUnit) (ts : Trees) (n : ℕ) (rest : List Instruction) → Has line n found its rest
      → Has line n found its (passes (names_of addressed) ts ++ rest)
  passed addressed no_trees n rest h = h
  passed addressed (trees t ts) n rest h =
      let more = passed addressed ts n rest h in
      record { ahead = more.ahead; notes = more.notes }

-- ---- expressions

module _ (addressed : AddressedUnit) (line : ℕ) (found its : List ℕ) where
  abbrev More-here : List Instruction → ℕ → Type 0
  More-here code m = More line found its code m

  name-is : (v : Option Value) (x : Name) → More-here (name_code (names_of addressed) line v x) (of_name v)
  name-is None x = one line found its _
  name-is (Some v) x = pushed line found its v

  -- a reference of a function, behind its actual arguments
  referred : (x : Name) (ts : Trees) → More-here (Step line (Refer (addressed.functions x) (count ts)) ∷ passes (names_of addressed) ts) 1
  referred x ts n rest h =
      recounted line found its (suc n) (1 + n)
      (Step line (Refer (addressed.functions x) (count ts)) ∷ (passes (names_of addressed) ts ++ rest)) (omega arith) (
      after line found its (Refer (addressed.functions x) (count ts)) n
      (passes (names_of addressed) ts ++ rest) refl refl (passed line found its addressed ts n rest h))

  listed-is : (m : Meaning) (x : Name) (ts : Trees) (list asked actuals : List Instruction) (a b c : ℕ) → More-here list a
      → More-here asked b → More-here actuals c
      → More-here (listed_code (names_of addressed) m line x ts list asked actuals) (of_listed m a b c)
  listed-is element x ts list asked actuals a b c f g h = both line found its list _ a 1 f (one line found its _)
  listed-is (pure fun) x ts list asked actuals a b c f g h = both line found its list _ a 1 f (one line found its _)
  listed-is (state fun) x ts list asked actuals a b c f g h = both line found its asked _ b 1 g (one line found its _)
  listed-is external x ts list asked actuals a b c f g h = both line found its actuals _ c 1 h (referred x ts)

  asked-listed : (m : Meaning) (list : List Instruction) (a : ℕ) → More-here list a → More-here (asked_listed_code m list) (of_asked m a)
  asked-listed element list a f = f
  asked-listed (pure fun) list a f = nothing line found its
  asked-listed (state fun) list a f = nothing line found its
  asked-listed external list a f = nothing line found its

  actual-name : (v : Option Value) → More-here (actual_name_code v) 0
  actual-name None = nothing line found its
  actual-name (Some v) = pushed line found its v

  actual-listed : (m : Meaning) (list value : List Instruction) (a b : ℕ) → More-here list a → More-here value b
      → More-here (actual_listed_code m list value) (of_actual m a b)
  actual-listed element list value a b f g = f
  actual-listed (pure fun) list value a b f g = g
  actual-listed (state fun) list value a b f g = g
  actual-listed external list value a b f g = g

  abbrev names : NameTable
  names = names_of addressed

  abbrev unit : List Statement
  unit = addressed.unit

  mutual
    tree-is : (t : Tree) → More-here (tree_code names line t) (in_tree unit t)
    tree-is (constant v) = pushed line found its v
    tree-is (occurrence p) = name-is (constant_value unit p.name) p.name
    tree-is (with_list p ts) =
        listed-is (listed_meaning unit p.name) p.name ts (trees_code names line ts) (asked_code names line ts)
        (actuals_code_in names line ts) _ _ _ (trees-are ts) (asked-is ts) (actuals-are ts)
    tree-is (parenthesized t) = tree-is t
    tree-is (signed s t) = both line found its (tree_code names line t) _ (in_tree unit t) 1 (tree-is t) (one line found its _)
    tree-is (negated t) = both line found its (tree_code names line t) _ (in_tree unit t) 1 (tree-is t) (one line found its _)
    tree-is (binary o a b) =
        both line found its (tree_code names line a ++ tree_code names line b) _ (in_tree unit a + in_tree unit b) 1 (
        both line found its (tree_code names line a) (tree_code names line b) (in_tree unit a)
        (in_tree unit b) (tree-is a) (tree-is b)) (one line found its _)

    trees-are : (ts : Trees) → More-here (trees_code names line ts) (in_trees unit ts)
    trees-are no_trees = nothing line found its
    trees-are (trees t ts) =
        both line found its (tree_code names line t) (trees_code names line ts)
        (in_tree unit t) (in_trees unit ts) (tree-is t) (trees-are ts)

    asked-is : (ts : Trees) → More-here (asked_code names line ts) (in_asked unit ts)
    asked-is no_trees = nothing line found its
    asked-is (trees (constant v) ts) = nothing line found its
    asked-is (trees (occurrence p) ts) = nothing line found its
    asked-is (trees (with_list p ts) no_trees) =
        asked-listed (listed_meaning unit p.name) (trees_code names line ts) (in_trees unit ts) (trees-are ts)
    asked-is (trees (with_list p ts) (trees u us)) = nothing line found its
    asked-is (trees (parenthesized t) ts) = nothing line found its
    asked-is (trees (signed s t) ts) = nothing line found its
    asked-is (trees (negated t) ts) = nothing line found its
    asked-is (trees (binary o a b) ts) = nothing line found its

    actual-is : (t : Tree) → More-here (actual_code names line t) (in_actual unit t)
    actual-is (constant v) = pushed line found its v
    actual-is (occurrence p) = actual-name (constant_value unit p.name)
    actual-is (with_list p ts) =
        actual-listed (listed_meaning unit p.name) (trees_code names line ts) _ (in_trees unit ts) _ (trees-are ts) (
        listed-is (listed_meaning unit p.name) p.name ts (trees_code names line ts) (asked_code names line ts)
        (actuals_code_in names line ts) _ _ _ (trees-are ts) (asked-is ts) (actuals-are ts))
    actual-is (parenthesized t) = tree-is t
    actual-is (signed s t) = both line found its (tree_code names line t) _ (in_tree unit t) 1 (tree-is t) (one line found its _)
    actual-is (negated t) = both line found its (tree_code names line t) _ (in_tree unit t) 1 (tree-is t) (one line found its _)
    actual-is (binary o a b) =
        both line found its (tree_code names line a ++ tree_code names line b) _ (in_tree unit a + in_tree unit b) 1 (
        both line found its (tree_code names line a) (tree_code names line b) (in_tree unit a)
        (in_tree unit b) (tree-is a) (tree-is b)) (one line found its _)

    actuals-are : (ts : Trees) → More-here (actuals_code_in names line ts) (in_actuals unit ts)
    actuals-are no_trees = nothing line found its
    actuals-are (trees t ts) =
        both line found its (actual_code names line t) (actuals_code_in names line ts)
        (in_actual unit t) (in_actuals unit ts) (actual-is t) (actuals-are ts)

  -- ---- lists of them

  all-of : {A : Type 0} (code : A → List Instruction) (count : A → ℕ) → ((x : A) → More-here (code x) (count x)) → (xs : List A)
      → More-here (flat_map code xs) (total count xs)
  all-of code count each [] = nothing line found its
  all-of code count each (x ∷ xs) =
      both line found its (code x) (flat_map code xs) (count x) (total count xs) (each x) (all-of code count each xs)

  target-is : (t : Target) → More-here (target_code names line t) (in_target unit t)
  target-is t = trees-are (trees_of t.subscripts)

  item-is : (i : PrintItem) → More-here (item_code names line i) (in_item unit i)
  item-is (item.Expression t) = tree-is t
  item-is (item.Characters cs) = nothing line found its

  control-is : (c : DoControl) → More-here (control_code names line c) (in_control unit c)
  control-is c =
      both line found its (tree_code names line c.initial) _ (in_tree unit c.initial) _ (tree-is c.initial) (
      both line found its (tree_code names line c.limit) (tree_code names line (increment_of c.increment))
      (in_tree unit c.limit) _ (tree-is c.limit) (tree-is (increment_of c.increment)))

  -- ---- statements

  abbrev table : Table
  table = table_of addressed

  operands-are : (f : Form) → More-here (operands_code table line f) (in_operands unit f)
  operands-are (form.Assign x t) =
      both line found its (tree_code names line t) (target_code names line x) (in_tree unit t) (in_target unit x) (tree-is t) (target-is x)
  operands-are (form.ComputedGoTo labels t) = tree-is t
  operands-are (form.ArithmeticIf t labels) = tree-is t
  operands-are (form.IfThen t) = tree-is t
  operands-are (form.ElseIf t) = tree-is t
  operands-are (form.Do c) = control-is c
  operands-are (form.Call p ts) = all-of (actual_code names line) (in_actual unit) actual-is ts
  operands-are (form.Create p ts) = all-of (actual_code names line) (in_actual unit) actual-is ts
  operands-are (form.Purge targets) = all-of (target_code names line) (in_target unit) target-is targets
  operands-are (form.Print items) = all-of (item_code names line) (in_item unit) item-is items
  operands-are (form.Program p) = nothing line found its
  operands-are (form.Subroutine p dummies) = nothing line found its
  operands-are (form.Function t p dummies) = nothing line found its
  operands-are (form.Implicit groups) = nothing line found its
  operands-are (form.Declare t declarators) = nothing line found its
  operands-are (form.Dimension declarators) = nothing line found its
  operands-are (form.Common blocks) = nothing line found its
  operands-are (form.Parameter constants) = nothing line found its
  operands-are (form.Data groups) = nothing line found its
  operands-are (form.GoTo l) = nothing line found its
  operands-are form.Else = nothing line found its
  operands-are form.EndIf = nothing line found its
  operands-are form.Continue = nothing line found its
  operands-are form.Return = nothing line found its
  operands-are form.Resume = nothing line found its
  operands-are form.Stop = nothing line found its
  operands-are form.End = nothing line found its

-- ---- what a statement does behind its operands, and what it goes on by

-- entries behind an operation
skipped : {T : Type 0} (f : T → Instruction) → ((x : T) (n : ℕ) (found : List ℕ) → noted (f x) n found ≡ found)
    → (ts : List T) (rest : List Instruction) (found : List ℕ)
    → noted_from (map f ts ++ rest) found ≡ noted_from rest found
skipped f none [] rest found = refl
skipped f none (t ∷ ts) rest found =
    none t (operations_ahead (f t ∷ (map f ts ++ rest))) (noted_from (map f ts ++ rest) found) ∙ skipped f none ts rest found

module _ (addressed : AddressedUnit) (found : List ℕ) where
  abbrev its_table : Table
  its_table = table_of addressed

  ended : (line : ℕ) (rest : List Instruction) (x : Option Variable)
      → Has line 1 found (noted_from rest found) (Step line (ending_of x) ∷ rest)
  ended line rest None = record { ahead = refl; notes = refl }
  ended line rest (Some x) = record { ahead = refl; notes = refl }

  done : (line k : ℕ) (rest : List Instruction) (f : Form)
      → Has line 1 found (noted_from rest found) (operation_code its_table line k f ++ rest)
  done line k rest (form.Program p) = record { ahead = refl; notes = refl }
  done line k rest (form.Subroutine p dummies) = record { ahead = refl; notes = refl }
  done line k rest (form.Function t p dummies) = record { ahead = refl; notes = refl }
  done line k rest (form.Implicit groups) = record { ahead = refl; notes = refl }
  done line k rest (form.Declare t declarators) = record { ahead = refl; notes = refl }
  done line k rest (form.Dimension declarators) = record { ahead = refl; notes = refl }
  done line k rest (form.Common blocks) = record { ahead = refl; notes = refl }
  done line k rest (form.Parameter constants) = record { ahead = refl; notes = refl }
  done line k rest (form.Data groups) = record { ahead = refl; notes = refl }
  done line k rest (form.Assign x t) = record { ahead = refl; notes = refl }
  done line k rest (form.GoTo l) = record { ahead = refl; notes = refl }
  done line k rest (form.ComputedGoTo labels t) =
      record { ahead = refl; notes = ap (λ ys. with_line ys line 1) (skipped (λ l. To (its_table.labels l)) (λ x n ys. refl) labels rest found) }
  done line k rest (form.ArithmeticIf t labels) = record { ahead = refl; notes = refl }
  done line k rest (form.IfThen t) = record { ahead = refl; notes = refl }
  done line k rest (form.ElseIf t) = record { ahead = refl; notes = refl }
  done line k rest form.Else = record { ahead = refl; notes = refl }
  done line k rest form.EndIf = record { ahead = refl; notes = refl }
  done line k rest (form.Do c) = record { ahead = refl; notes = refl }
  done line k rest (form.Call p ts) =
      record { ahead = refl; notes = ap (λ ys. with_line ys line 1) (skipped (λ t. Pass (argument_of (names_of addressed) t)) (λ x n ys. refl) ts rest found) }
  done line k rest (form.Create p ts) =
      record { ahead = refl; notes = ap (λ ys. with_line ys line 1) (skipped (λ t. Pass (argument_of (names_of addressed) t)) (λ x n ys. refl) ts rest found) }
  done line k rest (form.Purge targets) =
      record { ahead = refl; notes = ap (λ ys. with_line ys line 1) (skipped (λ t. Pass (argument_of_target (names_of addressed) t)) (λ x n ys. refl) targets rest found) }
  done line k rest (form.Print items) =
      record { ahead = refl; notes = ap (λ ys. with_line ys line 1) (skipped (λ i. Show (printed_of i)) (λ x n ys. refl) items rest found) }
  done line k rest form.Continue = record { ahead = refl; notes = refl }
  done line k rest form.Return = ended line rest its_table.result
  done line k rest form.Resume = record { ahead = refl; notes = refl }
  done line k rest form.Stop = record { ahead = refl; notes = refl }
  done line k rest form.End = ended line rest its_table.result

  statement-is : (line k : ℕ) (ts : List Tree) (f : Form) (rest : List Instruction)
      → Has line (in_statement addressed.unit ts f) found (noted_from rest found) (conditions_code its_table line k ts f ++ rest)
  statement-is line k [] f rest =
      let its : List ℕ = noted_from rest found in
      placed line found its (in_operands addressed.unit f + 1)
      (operands_code its_table line f ++ (operation_code its_table line k f ++ rest)) _
      (sym (append_assoc (operands_code its_table line f) (operation_code its_table line k f) rest)) (
      operands-are addressed line found its f 1 (operation_code its_table line k f ++ rest) (done line k rest f))
  statement-is line k (t ∷ ts) f rest =
      let its : List ℕ = noted_from rest found in
      let test : Instruction = Step line (Condition (its_table.flows k).next) in
      let more = statement-is line k ts f rest in
      placed line found its _ (tree_code (names_of addressed) line t ++ (test ∷ (conditions_code its_table line k ts f ++ rest))) _ (
      sym (append_assoc (tree_code (names_of addressed) line t) (test ∷ conditions_code its_table line k ts f) rest)) (
      tree-is addressed line found its t (suc (in_statement addressed.unit ts f)) (test ∷ (conditions_code its_table line k ts f ++ rest)) (
      after line found its (Condition (its_table.flows k).next) (in_statement addressed.unit ts f)
      (conditions_code its_table line k ts f ++ rest) refl refl more))

  -- the end of a DO is passed over
  end-passed : (d : ℕ) (f : Form) (rest : List Instruction) → noted_from (loop_end_code its_table d f ++ rest) found ≡ noted_from rest found
  end-passed d (form.Program p) rest = refl
  end-passed d (form.Subroutine p dummies) rest = refl
  end-passed d (form.Function t p dummies) rest = refl
  end-passed d (form.Implicit groups) rest = refl
  end-passed d (form.Declare t declarators) rest = refl
  end-passed d (form.Dimension declarators) rest = refl
  end-passed d (form.Common blocks) rest = refl
  end-passed d (form.Parameter constants) rest = refl
  end-passed d (form.Data groups) rest = refl
  end-passed d (form.Assign x t) rest = refl
  end-passed d (form.GoTo l) rest = refl
  end-passed d (form.ComputedGoTo labels t) rest = refl
  end-passed d (form.ArithmeticIf t labels) rest = refl
  end-passed d (form.IfThen t) rest = refl
  end-passed d (form.ElseIf t) rest = refl
  end-passed d form.Else rest = refl
  end-passed d form.EndIf rest = refl
  end-passed d (form.Do c) rest = refl
  end-passed d (form.Call p ts) rest = refl
  end-passed d (form.Create p ts) rest = refl
  end-passed d (form.Purge targets) rest = refl
  end-passed d (form.Print items) rest = refl
  end-passed d form.Continue rest = refl
  end-passed d form.Return rest = refl
  end-passed d form.Resume rest = refl
  end-passed d form.Stop rest = refl
  end-passed d form.End rest = refl

  statement-noted : (k : ℕ) (s : Statement) (rest : List Instruction)
      → noted_from (statement_code its_table k s ++ rest) found
      ≡ with_line (noted_from rest found) s.line (in_statement addressed.unit s.conditions s.form)
  statement-noted k s rest =
      let behind : List Instruction = loop_end_code its_table k s.form ++ rest in
      ap (λ is. noted_from is found)
      (append_assoc (conditions_code its_table s.line k s.conditions s.form) (loop_end_code its_table k s.form) rest)
      ∙ (statement-is s.line k s.conditions s.form behind).notes
      ∙ ap (λ ys. with_line ys s.line (in_statement addressed.unit s.conditions s.form)) (end-passed k s.form rest)

  statements-noted : (k : ℕ) (ss : List Statement)
      → noted_from (statements_code its_table k ss) found ≡ operations_in_unit addressed.unit ss found
  statements-noted k [] =
      ap (λ is. noted_from is found) (sym (append-nil (statement_code its_table k no_statement))) ∙ statement-noted k no_statement []
  statements-noted k (s ∷ ss) =
      statement-noted k s (statements_code its_table (suc k) ss)
      ∙ ap (λ ys. with_line ys s.line (in_statement addressed.unit s.conditions s.form)) (statements-noted (suc k) ss)

  -- those of each line's statement of a unit
  pub unit-noted : noted_from (code_of addressed) found ≡ operations_in_unit addressed.unit addressed.unit found
  unfolding code_of
  unit-noted = statements-noted 0 addressed.unit

-- ---- where an activation stands

pub values-passed : (vs : List Value) (code : List Instruction) → operations_ahead (map Push vs ++ code) ≡ operations_ahead code
values-passed [] code = refl
values-passed (v ∷ vs) code = values-passed vs code

module _ (addressed : AddressedUnit) (k : ℕ) where
  pub work-ahead : (work : Work) (rest : List Instruction)
      → operations_ahead (work_code addressed k work ++ rest) ≡ left_of addressed.unit work
  work-ahead (doing ts f) rest = (statement-is addressed [] (line_at addressed.unit k) k ts f rest).ahead
  work-ahead (ending d) rest = refl

  -- as many operations stand ahead as are left
  pub left-ahead : (work : Work) (operands : List Value) (index : ℕ) → Stands addressed k work operands index
      → operations_ahead (drop index (code_of addressed)) ≡ left_of addressed.unit work
  left-ahead work operands index stands =
      sym (values-passed operands (drop index (code_of addressed))) ∙ ap operations_ahead (sym stands.same) ∙ work-ahead work stands.rest

-- ---- the units of a program

pub unit-next : (program : Units) (u : ℕ) (code : List Instruction) (found next whole : List ℕ) → u < length program
    → code ≡ code_of (addressed_unit program (addresses_of program) u)
    → operations_in (drop u program) found ≡ whole → next ≡ noted_from code found → operations_in (drop (u + 1) program) next ≡ whole
unit-next program u code found next whole less code_is h notes =
    let here : drop u program ≡ unit_at program u ∷ drop (u + 1) program =
    drop_at program u (unit_at program u) less (there program u less) in
    ap (operations_in (drop (u + 1) program))
    (notes ∙ ap (λ is. noted_from is found) code_is ∙ unit-noted (addressed_unit program (addresses_of program) u) found)
    ∙ ap (λ us. operations_in us found) (sym here) ∙ h
  where
    there : (us : Units) (i : ℕ) → i < length us → unit_at us i ≡ get_or us i (unit_at us i)
    there us i inside = by (unit_at us i) refl where
      by : (unit : List Statement) → unit_at us i ≡ unit → unit_at us i ≡ get_or us i unit
      by unit e = ap (λ (o : Option (List Statement)). unwrap_or o []) (slice_get-get_or us i unit inside)

pub all-noted : (program : Units) (u : ℕ) (found whole : List ℕ) → length program ≤ u → operations_in (drop u program) found ≡ whole
    → found ≡ whole
all-noted program u found whole past h = ap (λ us. operations_in us found) (sym (drop_all u program past)) ∙ h
