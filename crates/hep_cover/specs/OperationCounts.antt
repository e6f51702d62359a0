-- The number of operations left of a statement: docs/RUNS.md, "How often lines began".
use Rattle.std.specs.Prelude.{ℕ, suc, ◌+◌, List, [], ◌∷◌, Option, Some, None}
use Rattle.hep_machine.specs.Words.{Tree, Trees, constant, occurrence, with_list, parenthesized, signed, negated, binary, no_trees, trees, trees_of, Form, Statement, Target, DoControl, PrintItem, Value, Meaning, element, pure, state, external, Work, doing, ending, constant_value, increment_of, listed_meaning}
use Rattle.hep_source.specs.declared.statement.Form.TheVariants as form
use Rattle.hep_source.specs.declared.statement.PrintItem.TheVariants as item

abbrev pub total : {A : Type 0} → (A → ℕ) → List A → ℕ
total f [] = 0
total f (x ∷ xs) = f x + total f xs

-- ---- expressions: X3.9-1978, 6.6. A value has no operation, nor have parentheses

-- a name: a constant is a value, anything else is read
abbrev pub of_name : Option Value → ℕ
of_name None = 1
of_name (Some v) = 0

-- a name with a list, by its meaning: one operation after those of the list, or of the argument of FULL, EMPTY,
-- VALUE, SETE or WAITF, or of actual arguments
abbrev pub of_listed : Meaning → ℕ → ℕ → ℕ → ℕ
of_listed element list asked actuals = list + 1
of_listed (pure f) list asked actuals = list + 1
of_listed (state f) list asked actuals = asked + 1
of_listed external list asked actuals = actuals + 1

-- an element as such an argument has the operations of its subscripts
abbrev pub of_asked : Meaning → ℕ → ℕ
of_asked element list = list
of_asked _ list = 0

-- an actual argument that is an element isn't read (15.9.3)
abbrev pub of_actual : Meaning → ℕ → ℕ → ℕ
of_actual element list value = list
of_actual _ list value = value

module _ (unit : List Statement) where
  abbrev mutual
    pub in_tree : Tree → ℕ
    in_tree (constant v) = 0
    in_tree (occurrence p) = of_name (constant_value unit p.name)
    in_tree (with_list p ts) = of_listed (listed_meaning unit p.name) (in_trees ts) (in_asked ts) (in_actuals ts)
    in_tree (parenthesized t) = in_tree t
    in_tree (signed s t) = in_tree t + 1
    in_tree (negated t) = in_tree t + 1
    in_tree (binary o a b) = (in_tree a + in_tree b) + 1

    pub in_trees : Trees → ℕ
    in_trees no_trees = 0
    in_trees (trees t ts) = in_tree t + in_trees ts

    pub in_asked : Trees → ℕ
    in_asked (trees (with_list p ts) no_trees) = of_asked (listed_meaning unit p.name) (in_trees ts)
    in_asked _ = 0

    -- an actual argument: a name isn't read
    pub in_actual : Tree → ℕ
    in_actual (constant v) = 0
    in_actual (occurrence p) = 0
    in_actual (with_list p ts) =
        of_actual (listed_meaning unit p.name) (in_trees ts)
        (of_listed (listed_meaning unit p.name) (in_trees ts) (in_asked ts) (in_actuals ts))
    in_actual (parenthesized t) = in_tree t
    in_actual (signed s t) = in_tree t + 1
    in_actual (negated t) = in_tree t + 1
    in_actual (binary o a b) = (in_tree a + in_tree b) + 1

    pub in_actuals : Trees → ℕ
    in_actuals no_trees = 0
    in_actuals (trees t ts) = in_actual t + in_actuals ts

  abbrev pub in_target : Target → ℕ
  in_target t = in_trees (trees_of t.subscripts)

  abbrev pub in_item : PrintItem → ℕ
  in_item (item.Expression t) = in_tree t
  in_item (item.Characters cs) = 0

  abbrev pub in_control : DoControl → ℕ
  in_control c = in_tree c.initial + (in_tree c.limit + in_tree (increment_of c.increment))

  -- ---- statements

  -- the operations that give a form its operands
  abbrev pub in_operands : Form → ℕ
  in_operands (form.Assign x t) = in_tree t + in_target x
  in_operands (form.ComputedGoTo labels t) = in_tree t
  in_operands (form.ArithmeticIf t labels) = in_tree t
  in_operands (form.IfThen t) = in_tree t
  in_operands (form.ElseIf t) = in_tree t
  in_operands (form.Do c) = in_control c
  in_operands (form.Call p ts) = total in_actual ts
  in_operands (form.Create p ts) = total in_actual ts
  in_operands (form.Purge targets) = total in_target targets
  in_operands (form.Print items) = total in_item items
  in_operands _ = 0

  -- each condition of a logical IF is tested, and after its operands the statement has one more operation
  abbrev pub in_statement : List Tree → Form → ℕ
  in_statement [] f = in_operands f + 1
  in_statement (t ∷ ts) f = in_tree t + suc (in_statement ts f)

  -- the operations left of a statement; the end of a DO is no part of the statement before it
  abbrev pub left_of : Work → ℕ
  left_of (doing ts f) = in_statement ts f
  left_of (ending d) = 0
