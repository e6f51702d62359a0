-- Operators and functions on values, by exact whole numbers: X3.9-1978, sections 6.1, 6.3, 6.4 and 15.10.
use Rattle.std.specs.Prelude.{ℕ, zero, suc, ◌^◌, ℤ, pos, negsuc, ◌+ℤ◌, ◌-ℤ◌, ◌*ℤ◌, nat_abs, int_div, int_lt, int_le, Bool, not, ◌&&◌, ◌||◌, nat_lt, if◌then◌else◌, List, [], ◌∷◌, Result, Ok, Err}
use Rattle.std.specs.Int.{int_pow}
use Rattle.hep_machine.specs.declared.event.Kind.{Kind}
use Rattle.hep_machine.specs.declared.event.Kind.TheVariants.{Overflow, Divide}
use Rattle.hep_source.specs.declared.function.PureFunction.{PureFunction}
use Rattle.hep_source.specs.declared.function.PureFunction.TheVariants.{AbsoluteValue, Remainder, TransferOfSign, PositiveDifference, Largest, Smallest}
use Rattle.hep_source.specs.declared.operator.Sign.{Sign}
use Rattle.hep_source.specs.declared.operator.Sign.TheVariants.{Plus, Minus}
use Rattle.hep_source.specs.declared.operator.ArithmeticOperator.{ArithmeticOperator}
use Rattle.hep_source.specs.declared.operator.ArithmeticOperator.TheVariants.{Add, Subtract, Multiply, Divide as Quotient, Power}
use Rattle.hep_source.specs.declared.operator.RelationalOperator.{RelationalOperator}
use Rattle.hep_source.specs.declared.operator.RelationalOperator.TheVariants.{Less, LessOrEqual, Equal, NotEqual, Greater, GreaterOrEqual}
use Rattle.hep_source.specs.declared.operator.LogicalOperator.{LogicalOperator}
use Rattle.hep_source.specs.declared.operator.LogicalOperator.TheVariants.{And, Or, Equivalent, NotEquivalent}
use Rattle.hep_source.specs.declared.operator.Operator.{Operator}
use Rattle.hep_source.specs.declared.operator.Operator.TheVariants.{Arithmetic, Relational, Logical}
use Rattle.hep_source.specs.declared.value.Value.{Value}
use Rattle.hep_source.specs.declared.value.Value.TheVariants.{Int, Truth}
use Rattle.hep_source.specs.Names.{same_logical}
use Rattle.hep_machine.specs.Defaults.{no_integer, no_logical}

-- ---- integers: 4.3 and 6.1

-- whether a whole number is an integer of the language: from -9223372036854775808 to 9223372036854775807
abbrev pub is_integer : ℤ → Bool
is_integer (pos n) = nat_lt n (2 ^ 63)
is_integer (negsuc n) = nat_lt n (2 ^ 63)

-- the exact result, or OVERFLOW where it is no integer of the language
abbrev pub integer_or_overflow : ℤ → Result ℤ Kind
integer_or_overflow z = if is_integer z then Ok z else Err Overflow

-- a quotient without its fraction: 6.1.5
abbrev pub quotient_of : ℤ → ℤ → Result ℤ Kind
quotient_of x (pos zero) = Err Divide
quotient_of x (pos (suc n)) = integer_or_overflow (int_div x (pos (suc n)))
quotient_of x (negsuc n) = integer_or_overflow (int_div x (negsuc n))

-- 1 / x ** n without its fraction, for n above 0
abbrev pub reciprocal_of : ℤ → ℕ → Result ℤ Kind
reciprocal_of (pos zero) n = Err Divide
reciprocal_of (pos (suc zero)) n = Ok (pos 1)
reciprocal_of (pos (suc (suc k))) n = Ok (pos 0)
reciprocal_of (negsuc zero) n = Ok (int_pow (negsuc 0) n)
reciprocal_of (negsuc (suc k)) n = Ok (pos 0)

abbrev pub power_of : ℤ → ℤ → Result ℤ Kind
power_of x (pos n) = integer_or_overflow (int_pow x n)
power_of x (negsuc n) = reciprocal_of x (suc n)

-- the result of an arithmetic operator on two integers
abbrev pub result_of : ArithmeticOperator → ℤ → ℤ → Result ℤ Kind
result_of Add x y = integer_or_overflow (x +ℤ y)
result_of Subtract x y = integer_or_overflow (x -ℤ y)
result_of Multiply x y = integer_or_overflow (x *ℤ y)
result_of Quotient x y = quotient_of x y
result_of Power x y = power_of x y

-- the result of a sign before an integer
abbrev pub signed_result : Sign → ℤ → Result ℤ Kind
signed_result Plus x = Ok x
signed_result Minus x = integer_or_overflow (pos 0 -ℤ x)

-- ---- relations between integers: 6.3

abbrev pub holds : RelationalOperator → ℤ → ℤ → Bool
holds Less x y = int_lt x y
holds LessOrEqual x y = int_le x y
holds Equal x y = int_le x y && int_le y x
holds NotEqual x y = int_lt x y || int_lt y x
holds Greater x y = int_lt y x
holds GreaterOrEqual x y = int_le y x

-- ---- logical values: 6.4

abbrev pub logical_result : LogicalOperator → Bool → Bool → Bool
logical_result And a b = a && b
logical_result Or a b = a || b
logical_result Equivalent a b = same_logical a b
logical_result NotEquivalent a b = not (same_logical a b)

-- ---- functions: 15.10

abbrev pub size_of : ℤ → ℤ
size_of x = pos (nat_abs x)

-- x - (x / y) * y by the exact quotient, so that the remainder fits even where the quotient doesn't
abbrev pub remainder_of : ℤ → ℤ → Result ℤ Kind
remainder_of x (pos zero) = Err Divide
remainder_of x (pos (suc n)) = integer_or_overflow (x -ℤ int_div x (pos (suc n)) *ℤ pos (suc n))
remainder_of x (negsuc n) = integer_or_overflow (x -ℤ int_div x (negsuc n) *ℤ negsuc n)

abbrev pub largest_of : ℤ → List ℤ → ℤ
largest_of x [] = x
largest_of x (y ∷ ys) = largest_of (if int_lt x y then y else x) ys

abbrev pub smallest_of : ℤ → List ℤ → ℤ
smallest_of x [] = x
smallest_of x (y ∷ ys) = smallest_of (if int_lt y x then y else x) ys

-- the result of a function on its arguments; no accepted program has another number of them
abbrev pub function_result : PureFunction → List ℤ → Result ℤ Kind
function_result AbsoluteValue (x ∷ []) = integer_or_overflow (size_of x)
function_result Remainder (x ∷ y ∷ []) = remainder_of x y
function_result TransferOfSign (x ∷ y ∷ []) = integer_or_overflow (if int_le (pos 0) y then size_of x else pos 0 -ℤ size_of x)
function_result PositiveDifference (x ∷ y ∷ []) = integer_or_overflow (if int_lt y x then x -ℤ y else pos 0)
function_result Largest (x ∷ xs) = Ok (largest_of x xs)
function_result Smallest (x ∷ xs) = Ok (smallest_of x xs)
function_result _ _ = Ok no_integer

-- ---- values: 4.3 and 4.7

abbrev pub integer_of : Value → ℤ
integer_of (Int z) = z
integer_of (Truth b) = no_integer

abbrev pub logical_of : Value → Bool
logical_of (Int z) = no_logical
logical_of (Truth b) = b

abbrev pub as_value : Result ℤ Kind → Result Value Kind
as_value (Ok z) = Ok (Int z)
as_value (Err k) = Err k

abbrev pub signed_value : Sign → Value → Result Value Kind
signed_value s v = as_value (signed_result s (integer_of v))

abbrev pub negated_value : Value → Result Value Kind
negated_value v = Ok (Truth (not (logical_of v)))

abbrev pub combined_value : Operator → Value → Value → Result Value Kind
combined_value (Arithmetic o) v w = as_value (result_of o (integer_of v) (integer_of w))
combined_value (Relational o) v w = Ok (Truth (holds o (integer_of v) (integer_of w)))
combined_value (Logical o) v w = Ok (Truth (logical_result o (logical_of v) (logical_of w)))

abbrev pub integers_of : List Value → List ℤ
integers_of [] = []
integers_of (v ∷ vs) = integer_of v ∷ integers_of vs

abbrev pub function_value : PureFunction → List Value → Result Value Kind
function_value f vs = as_value (function_result f (integers_of vs))
