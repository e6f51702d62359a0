-- The types of the expressions and statements of an accepted program, and partly evaluated expressions and statements: X3.9-1978, 4.1,
-- sections 6, 10 and 11, and 15.10, and docs/MACHINE.md, "Evaluation".
use Rattle.std.specs.Prelude.{◌≡◌, ◌⊎◌, ℕ, true, false, List, [], length, Some, Bool, ◌∷◌}
use Rattle.hep_machine.specs.Words.{Tree, Trees, with_list, signed, negated, binary, no_trees, trees, trees_of, NamedConstant, Target, ValueType, Integer, Logical, Name, Form, Statement, Value, constant_shape, constant_value, value_of, dimensions_of, is_array, type_of, Meaning, element, pure, state, external, listed_meaning, Bounds, elements, is_shape, constant, occurrence, parenthesized, DoControl, PrintItem, Expression, Characters, is_external, increment_of}
use Rattle.hep_source.specs.declared.statement.Form.TheVariants as form
use Rattle.hep_conditions.specs.Words.{count_of, FunctionTypes, no_functions, type_of_operands, type_of_tree, type_of_value}
use Rattle.hep_accepted_laws.specs.Agreement.{IsOneAsynchronousScalar}

-- ---- types: 4.1, sections 6, 10 and 11, and 15.10

-- an expression of this type
abbrev pub IsOf : FunctionTypes → List Statement → ValueType → Tree → Type 0
IsOf functions unit t e = type_of_tree functions unit e ≡ Some (Some t)

-- an integer or logical expression
abbrev pub HasType : FunctionTypes → List Statement → Tree → Type 0
HasType functions unit e = (t : ValueType) × IsOf functions unit t e

abbrev pub AreAllOf : FunctionTypes → List Statement → ValueType → Trees → Type 0
AreAllOf functions unit t no_trees = Unit {0}
AreAllOf functions unit t (trees e es) = IsOf functions unit t e × AreAllOf functions unit t es

-- integers, as many as an array has dimensions: 5.4.1
abbrev pub AreSubscripts : FunctionTypes → List Statement → Name → Trees → Type 0
AreSubscripts functions unit x ts = (count_of ts ≡ length (dimensions_of unit x)) × AreAllOf functions unit Integer ts

-- the list of a name: subscripts, integers for a function of integers, or the argument of FULL and the others; a
-- function of the program is an integer or logical (5.4.1, 15.5, 15.10, and docs/LANGUAGE.md, 8)
abbrev pub IsListOf : FunctionTypes → List Statement → Meaning → Name → Trees → Type 0
IsListOf functions unit element x ts = AreSubscripts functions unit x ts
IsListOf functions unit (pure f) x ts = AreAllOf functions unit Integer ts
IsListOf functions unit (state f) x ts = IsOneAsynchronousScalar functions unit ts
IsListOf functions unit external x ts = (t : ValueType) × (functions x ≡ Some (Some t))

-- the parts of an expression have the required types: 6.1.4, 6.3.3 and 6.4.2
abbrev pub HasOperands : FunctionTypes → List Statement → Tree → Type 0
HasOperands functions unit (with_list p ts) = IsListOf functions unit (listed_meaning unit p.name) p.name ts
HasOperands functions unit (signed s t) = IsOf functions unit Integer t
HasOperands functions unit (negated t) = IsOf functions unit Logical t
HasOperands functions unit (binary o a b) = IsOf functions unit (type_of_operands o) a × IsOf functions unit (type_of_operands o) b
HasOperands functions unit _ = Unit {0}

-- what is assigned: a scalar by itself, or an element of an array (10.1 and 10.2)
abbrev pub IsPlace : FunctionTypes → List Statement → Target → Type 0
IsPlace functions unit x =
    ((x.subscripts ≡ []) × (is_array unit x.occurrence.name ≡ false))
    ⊎ ((is_array unit x.occurrence.name ≡ true) × AreSubscripts functions unit x.occurrence.name (trees_of x.subscripts))

-- the types that statements require: 10.1, 10.2, 11.2, 11.4, 11.6, 11.7 and 11.10
abbrev pub HasTypes : FunctionTypes → List Statement → Form → Type 0
HasTypes functions unit (form.Assign x t) = (v : ValueType) × (type_of unit x.occurrence.name ≡ Some v) × IsOf functions unit v t × IsPlace functions unit x
HasTypes functions unit (form.ComputedGoTo labels t) = IsOf functions unit Integer t
HasTypes functions unit (form.ArithmeticIf t labels) = IsOf functions unit Integer t
HasTypes functions unit (form.IfThen t) = IsOf functions unit Logical t
HasTypes functions unit (form.ElseIf t) = IsOf functions unit Logical t
HasTypes functions unit (form.Do c) =
    (is_array unit c.variable.name ≡ false)
    × (type_of unit c.variable.name ≡ Some Integer)
    × IsOf functions unit Integer c.initial
    × IsOf functions unit Integer c.limit
    × ((t : Tree) → c.increment ≡ Some t → IsOf functions unit Integer t)
HasTypes functions unit _ = Unit {0}

-- a named constant has a value, which is that of its expression, of the type that its name and its expression have: 8.6
abbrev pub HasValue : List Statement → NamedConstant → Type 0
HasValue unit c =
    (v : Value)
    × (constant_value unit c.occurrence.name ≡ Some v)
    × (value_of unit (constant_value unit) c.value ≡ Some v)
    × (type_of unit c.occurrence.name ≡ Some (type_of_value v))
    × IsOf no_functions unit (type_of_value v) c.value

-- an array has constant bounds, which are a shape with a number of elements: 5.1.1 and 5.2.3
abbrev pub HasShape : List Statement → Name → Type 0
HasShape unit x = (bs : Bounds) × (constant_shape unit x ≡ Some bs) × (is_shape bs ≡ true) × (n : ℕ) × (elements bs ≡ Some n)

-- ---- partly evaluated expressions: 6.6

abbrev pub IsValue : Tree → Type 0
IsValue t = (v : Value) × (t ≡ constant v)

-- one of two, by a test
abbrev pub Chosen : Bool → Type 0 → Type 0 → Type 0
Chosen true A B = A
Chosen false A B = B

abbrev mutual
  -- the second is the first with values in the place of some of its parts; an argument of a function of the program
  -- is partly evaluated as actual arguments are: 15.9.2
  pub IsFilled : List Statement → Tree → Tree → Type 0
  IsFilled unit (constant v) u = u ≡ constant v
  IsFilled unit (occurrence p) u = (u ≡ occurrence p) ⊎ IsValue u
  IsFilled unit (with_list p ts) u =
      ((us : Trees) × (u ≡ with_list p us) × Chosen (is_external (listed_meaning unit p.name)) (AreActualsFilled unit ts us) (AreFilled unit ts us)) ⊎ IsValue u
  IsFilled unit (parenthesized t) u = (r : Tree) × (u ≡ parenthesized r) × IsFilled unit t r
  IsFilled unit (signed s t) u = ((r : Tree) × (u ≡ signed s r) × IsFilled unit t r) ⊎ IsValue u
  IsFilled unit (negated t) u = ((r : Tree) × (u ≡ negated r) × IsFilled unit t r) ⊎ IsValue u
  IsFilled unit (binary o a b) u = ((c d : Tree) × (u ≡ binary o c d) × IsFilled unit a c × IsFilled unit b d) ⊎ IsValue u

  pub AreFilled : List Statement → Trees → Trees → Type 0
  AreFilled unit no_trees us = us ≡ no_trees
  AreFilled unit (trees t ts) us = (r : Tree) × (rs : Trees) × (us ≡ trees r rs) × IsFilled unit t r × AreFilled unit ts rs

  -- an actual argument: a name stays one, and so does an element of an array
  pub IsFilledActual : List Statement → Tree → Tree → Type 0
  IsFilledActual unit (constant v) u = u ≡ constant v
  IsFilledActual unit (occurrence p) u = u ≡ occurrence p
  IsFilledActual unit (with_list p ts) u =
      Chosen (is_array unit p.name) ((us : Trees) × (u ≡ with_list p us) × AreFilled unit ts us) (
      ((us : Trees) × (u ≡ with_list p us) × Chosen (is_external (listed_meaning unit p.name)) (AreActualsFilled unit ts us) (AreFilled unit ts us)) ⊎ IsValue u)
  IsFilledActual unit (parenthesized t) u = (r : Tree) × (u ≡ parenthesized r) × IsFilled unit t r
  IsFilledActual unit (signed s t) u = ((r : Tree) × (u ≡ signed s r) × IsFilled unit t r) ⊎ IsValue u
  IsFilledActual unit (negated t) u = ((r : Tree) × (u ≡ negated r) × IsFilled unit t r) ⊎ IsValue u
  IsFilledActual unit (binary o a b) u = ((c d : Tree) × (u ≡ binary o c d) × IsFilled unit a c × IsFilled unit b d) ⊎ IsValue u

  pub AreActualsFilled : List Statement → Trees → Trees → Type 0
  AreActualsFilled unit no_trees us = us ≡ no_trees
  AreActualsFilled unit (trees t ts) us = (r : Tree) × (rs : Trees) × (us ≡ trees r rs) × IsFilledActual unit t r × AreActualsFilled unit ts rs

-- ---- lists

-- two lists have the same length, and elements at the same index are in a relation
abbrev pub AreEach : {A B : Type 0} → (A → B → Type 0) → List A → List B → Type 0
AreEach R [] [] = Unit {0}
AreEach R (x ∷ xs) (y ∷ ys) = R x y × AreEach R xs ys
AreEach R _ _ = ⊥

-- ---- partly evaluated statements

-- targets of assignment (10.1 and 10.2) or of PURGE (docs/LANGUAGE.md, 9)
abbrev pub IsFilledTarget : List Statement → Target → Target → Type 0
IsFilledTarget unit x y = (y.occurrence ≡ x.occurrence) × AreEach (IsFilled unit) x.subscripts y.subscripts

-- items of a PRINT: 12.8.2
abbrev pub IsFilledItem : List Statement → PrintItem → PrintItem → Type 0
IsFilledItem unit (Expression t) i = (u : Tree) × (i ≡ Expression u) × IsFilled unit t u
IsFilledItem unit (Characters cs) i = i ≡ Characters cs

-- DO: 11.10.3
pub record IsFilledControl (unit : List Statement) (c d : DoControl) : Type 0 where
  pub terminal : d.terminal ≡ c.terminal
  pub variable : d.variable ≡ c.variable
  pub initial : IsFilled unit c.initial d.initial
  pub limit : IsFilled unit c.limit d.limit
  pub increment : IsFilled unit (increment_of c.increment) (increment_of d.increment)

-- the second is the first with values in the place of some parts of its expressions
abbrev pub IsFilledForm : List Statement → Form → Form → Type 0
IsFilledForm unit (form.Assign x t) g = (y : Target) × (u : Tree) × (g ≡ form.Assign y u) × IsFilledTarget unit x y × IsFilled unit t u
IsFilledForm unit (form.ComputedGoTo labels t) g = (u : Tree) × (g ≡ form.ComputedGoTo labels u) × IsFilled unit t u
IsFilledForm unit (form.ArithmeticIf t labels) g = (u : Tree) × (g ≡ form.ArithmeticIf u labels) × IsFilled unit t u
IsFilledForm unit (form.IfThen t) g = (u : Tree) × (g ≡ form.IfThen u) × IsFilled unit t u
IsFilledForm unit (form.ElseIf t) g = (u : Tree) × (g ≡ form.ElseIf u) × IsFilled unit t u
IsFilledForm unit (form.Do c) g = (d : DoControl) × (g ≡ form.Do d) × IsFilledControl unit c d
IsFilledForm unit (form.Call p ts) g = (us : List Tree) × (g ≡ form.Call p us) × AreEach (IsFilledActual unit) ts us
IsFilledForm unit (form.Create p ts) g = (us : List Tree) × (g ≡ form.Create p us) × AreEach (IsFilledActual unit) ts us
IsFilledForm unit (form.Purge targets) g = (us : List Target) × (g ≡ form.Purge us) × AreEach (IsFilledTarget unit) targets us
IsFilledForm unit (form.Print items) g = (is : List PrintItem) × (g ≡ form.Print is) × AreEach (IsFilledItem unit) items is
IsFilledForm unit f g = g ≡ f
