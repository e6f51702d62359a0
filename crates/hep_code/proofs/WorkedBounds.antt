-- Worked bounds: of a unit whose first dummy argument is N and whose second is K, with M in cell 3 of COMMON.
use Rattle.std.specs.Prelude.{◌≡◌, ℕ, ℤ, pos, negsuc, false, codes, if◌then◌else◌, nat_eq, List, [], ◌∷◌, Option, Some, None, refl}
use Rattle.hep_machine.specs.Words.{Largest, Dimension, UpperBound, Expression, Open, Occurrence, Add, Subtract, Multiply, Arithmetic, Minus, Int, Tree, constant, occurrence, with_list, parenthesized, signed, binary, no_trees, trees, first_letter, Bounds}
use Rattle.hep_source.specs.declared.value.Value.{Value as Constant}
use Rattle.hep_machine.specs.declared.shape.Bound.{Bound}
use Rattle.hep_code.specs.declared.bound.BoundOperation.{BoundOperation}
use Rattle.hep_code.specs.declared.bound.BoundOperation.TheVariants.{Value, InCommon, InDummy, Sign, Combine, Apply, Nowhere}
use Rattle.hep_code.specs.BoundCode.{code_of_bound, coded_value}
use Rattle.hep_code.specs.DimensionCode.{code_of_dimensions, coded_shape}

abbrev name : List ℕ → Occurrence
name letters = record { name = record { asynchronous = false; letters = letters }; position = 0 }

abbrev n : Tree
n = occurrence (name (codes "N     "))

abbrev k : Tree
k = occurrence (name (codes "K     "))

abbrev m : Tree
m = occurrence (name (codes "M     "))

abbrev number : ℕ → Tree
number i = constant (Int (pos i))

abbrev by_letter : ℕ → BoundOperation
by_letter c = if nat_eq c 78 then InDummy 0 else if nat_eq c 75 then InDummy 1 else if nat_eq c 77 then InCommon 3 else Nowhere

abbrev code : Tree → List BoundOperation
code t = code_of_bound (λ x. by_letter (first_letter x)) [] t

abbrev dimensions : List Dimension → List BoundOperation
dimensions ds = code_of_dimensions (λ x. by_letter (first_letter x)) [] ds

-- ---- N*2+1

abbrev odd : Tree
odd = binary (Arithmetic Add) (binary (Arithmetic Multiply) n (number 2)) (number 1)

code_of_odd : code odd ≡ InDummy 0 ∷ Value (Int (pos 2)) ∷ Combine (Arithmetic Multiply) ∷ Value (Int (pos 1)) ∷ Combine (Arithmetic Add) ∷ []
code_of_odd = refl

-- a sign is behind its operand, and a function of integers behind all its arguments: -MAX0(M,(K),5)
abbrev largest : Tree
largest = signed Minus (with_list (name (codes "MAX0  ")) (trees m (trees (parenthesized k) (trees (number 5) no_trees))))

code_of_largest : code largest ≡ InCommon 3 ∷ InDummy 1 ∷ Value (Int (pos 5)) ∷ Apply Largest 3 ∷ Sign Minus ∷ []
code_of_largest = refl

-- what is no function of integers has no value: A(N)
code_of_element : code (with_list (name (codes "A     ")) (trees n no_trees)) ≡ Nowhere ∷ []
code_of_element = refl

-- ---- what they come to: N has what is stored in cell 1 or 2 of COMMON, K is 6, and M is 7

abbrev common : ℕ → Option Constant
common c = if nat_eq c 1 then Some (Int (pos 4)) else if nat_eq c 3 then Some (Int (pos 7)) else None

abbrev dummies : ℕ → ℕ → Option Constant
dummies first k = if nat_eq k 0 then common first else if nat_eq k 1 then Some (Int (pos 6)) else None

abbrev value : ℕ → Tree → Option Constant
value first t = coded_value common (dummies first) (code t)

abbrev shape : ℕ → List Dimension → Option Bounds
shape first ds = coded_shape common (dummies first) (dimensions ds)

abbrev bound : ℤ → Option ℤ → Bound
bound lower upper = record { lower = lower; upper = upper }

odd_value : value 1 odd ≡ Some (Int (pos 9))
odd_value = refl

-- in cell 2 nothing was ever stored
odd_undefined : value 2 odd ≡ None
odd_undefined = refl

largest_value : value 1 largest ≡ Some (Int (negsuc 6))
largest_value = refl

-- a fault is no value: MOD(N,0)
fault : value 1 (with_list (name (codes "MOD   ")) (trees n (trees (number 0) no_trees))) ≡ None
fault = refl

-- ---- dimensions: (N,0:K-2,*), (-M:N) and, which is no shape, (*,N)

abbrev dimension : Option Tree → UpperBound → Dimension
dimension lower upper = record { lower = lower; upper = upper }

abbrev three : List Dimension
three =
    dimension None (Expression n) ∷ dimension (Some (number 0)) (Expression (binary (Arithmetic Subtract) k (number 2))) ∷ dimension None Open ∷ []

code_of_three : dimensions three ≡
    Value (Int (pos 1)) ∷ InDummy 0 ∷ Value (Int (pos 0)) ∷ InDummy 1 ∷ Value (Int (pos 2)) ∷ Combine (Arithmetic Subtract) ∷ Value (Int (pos 1)) ∷ []
code_of_three = refl

three_shape : shape 1 three ≡ Some (bound (pos 1) (Some (pos 4)) ∷ bound (pos 0) (Some (pos 4)) ∷ bound (pos 1) None ∷ [])
three_shape = refl

three_undefined : shape 2 three ≡ None
three_undefined = refl

negative_shape : shape 1 (dimension (Some (signed Minus m)) (Expression n) ∷ []) ≡ Some (bound (negsuc 6) (Some (pos 4)) ∷ [])
negative_shape = refl

-- an upper bound below its lower one
no_shape : shape 1 (dimension (Some m) (Expression n) ∷ []) ≡ None
no_shape = refl

open_before_another : shape 1 (dimension None Open ∷ dimension None (Expression n) ∷ []) ≡ None
open_before_another = refl
