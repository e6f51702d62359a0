-- The code of a bound, and the value that it computes from what is stored: X3.9-1978, 5.5.1. Operands come from left
-- to right, and then the operation on them.
use Rattle.std.specs.Prelude.{◌≡◌, ℕ, ◌-◌, Bool, true, false, List, [], ◌∷◌, ◌++◌, take, drop, length, Option, Some, None}
use Rattle.std.specs.Option.{option_map, option_and_then}
use Rattle.hep_machine.specs.Words.{Name, Statement, Tree, Trees, constant, occurrence, with_list, parenthesized, signed, negated, binary, no_trees, trees, signed_value, negated_value, combined_value, function_value, Values, without_fault, Meaning, pure, listed_meaning}
use Rattle.hep_source.specs.declared.value.Value.{Value as Constant}
use Rattle.hep_code.specs.Words.{count}
use Rattle.hep_code.specs.declared.bound.BoundOperation.{BoundOperation}
use Rattle.hep_code.specs.declared.bound.BoundOperation.TheVariants.{Value, InCommon, InDummy, Sign, Not, Combine, Apply, Nowhere}

-- ---- the code of an expression: section 6

-- the source of each name's value
abbrev pub Sources : Type 0
Sources = Name → BoundOperation

-- such an operation takes no operands
abbrev pub is_source : BoundOperation → Bool
is_source (Value v) = true
is_source (InCommon p) = true
is_source (InDummy k) = true
is_source Nowhere = true
is_source _ = false

-- a name with a list has a value only where it is a function of integers
abbrev pub code_of_listed : Meaning → ℕ → List BoundOperation → List BoundOperation
code_of_listed (pure f) n operands = operands ++ Apply f n ∷ []
code_of_listed _ n operands = Nowhere ∷ []

abbrev mutual
  pub code_of_bound : Sources → List Statement → Tree → List BoundOperation
  code_of_bound source unit (constant v) = Value v ∷ []
  code_of_bound source unit (occurrence p) = source p.name ∷ []
  code_of_bound source unit (with_list p ts) = code_of_listed (listed_meaning unit p.name) (count ts) (code_of_bounds source unit ts)
  code_of_bound source unit (parenthesized t) = code_of_bound source unit t
  code_of_bound source unit (signed s t) = code_of_bound source unit t ++ Sign s ∷ []
  code_of_bound source unit (negated t) = code_of_bound source unit t ++ Not ∷ []
  code_of_bound source unit (binary o a b) = code_of_bound source unit a ++ code_of_bound source unit b ++ Combine o ∷ []

  pub code_of_bounds : Sources → List Statement → Trees → List BoundOperation
  code_of_bounds source unit no_trees = []
  code_of_bounds source unit (trees t ts) = code_of_bound source unit t ++ code_of_bounds source unit ts

-- ---- the value that code computes

abbrev pub arity : BoundOperation → ℕ
arity (Value v) = 0
arity (InCommon p) = 0
arity (InDummy k) = 0
arity (Sign s) = 1
arity Not = 1
arity (Combine o) = 2
arity (Apply f n) = n
arity Nowhere = 0

-- values, with one more after them, if there is one
abbrev pub behind : List Constant → Option Constant → Option (List Constant)
behind stack o = option_map (λ v. stack ++ v ∷ []) o

-- the value, if there is just one
abbrev pub only_value : List Constant → Option Constant
only_value (v ∷ []) = Some v
only_value _ = None

-- the values in the cells of COMMON and of the dummy arguments, where they have one
module _ (common dummies : ℕ → Option Constant) where
  -- the value of an operation on its operands, none where it faults
  abbrev pub value_on : BoundOperation → List Constant → Option Constant
  value_on (Value v) vs = Some v
  value_on (InCommon p) vs = common p
  value_on (InDummy k) vs = dummies k
  value_on (Sign s) (v ∷ []) = without_fault (signed_value s v)
  value_on Not (v ∷ []) = without_fault (negated_value v)
  value_on (Combine o) (v ∷ w ∷ []) = without_fault (combined_value o v w)
  value_on (Apply f n) vs = without_fault (function_value f vs)
  value_on _ vs = None

  -- the value of a name
  abbrev pub value_at : BoundOperation → Option Constant
  value_at o = value_on o []

  -- an operation's operands are the last values; none where it has no value
  abbrev pub after_operation : BoundOperation → List Constant → Option (List Constant)
  after_operation o stack = behind (take (length stack - arity o) stack) (value_on o (drop (length stack - arity o) stack))

  abbrev pub after_code : List BoundOperation → List Constant → Option (List Constant)
  after_code [] stack = Some stack
  after_code (o ∷ os) stack = option_and_then (after_code os) (after_operation o stack)

  -- the value that code leaves
  abbrev pub coded_value : List BoundOperation → Option Constant
  coded_value code = option_and_then only_value (after_code code [])

  -- each name's source takes no operands, and has the name's value
  pub record AreSources (values : Values) (source : Sources) : Type 0 where
    pub takes_none : (x : Name) → is_source (source x) ≡ true
    pub has_value : (x : Name) → values x ≡ value_at (source x)
