-- Values, names with subscripts, operators and functions, as Fortran writes them: docs/RUNS.md, "What each step did".
use Rattle.std.specs.Prelude.{ℕ, List, [], ◌∷◌, ◌++◌, codes, Some}
use Rattle.hep_source.specs.declared.function.PureFunction.{PureFunction}
use Rattle.hep_source.specs.declared.function.PureFunction.TheVariants.{AbsoluteValue, Remainder, TransferOfSign, PositiveDifference, Largest, Smallest}
use Rattle.hep_source.specs.declared.function.StateFunction.{StateFunction}
use Rattle.hep_source.specs.declared.function.StateFunction.TheVariants.{IsFull, IsEmpty, ValueOf, SetEmpty, WaitFull}
use Rattle.hep_source.specs.declared.operator.ArithmeticOperator.{ArithmeticOperator}
use Rattle.hep_source.specs.declared.operator.ArithmeticOperator.TheVariants.{Add, Subtract, Multiply, Divide, Power}
use Rattle.hep_source.specs.declared.operator.LogicalOperator.{LogicalOperator}
use Rattle.hep_source.specs.declared.operator.LogicalOperator.TheVariants.{And, Or, Equivalent, NotEquivalent}
use Rattle.hep_source.specs.declared.operator.Operator.{Operator}
use Rattle.hep_source.specs.declared.operator.Operator.TheVariants.{Arithmetic, Relational, Logical}
use Rattle.hep_source.specs.declared.operator.RelationalOperator.{RelationalOperator}
use Rattle.hep_source.specs.declared.operator.RelationalOperator.TheVariants.{Less, LessOrEqual, Equal, NotEqual, Greater, GreaterOrEqual}
use Rattle.hep_source.specs.declared.operator.Sign.{Sign}
use Rattle.hep_source.specs.declared.operator.Sign.TheVariants.{Plus, Minus}
use Rattle.hep_source.specs.declared.value.Value.{Value}
use Rattle.hep_state_text.specs.Values as states

-- ---- values and lists of them

-- as PRINT writes it
abbrev pub value_text : Value → List ℕ
value_text v = states.value_text (Some v)

-- after another one
abbrev pub further_text : Value → List ℕ
further_text v = codes "," ++ value_text v

abbrev pub further_texts : List Value → List ℕ
further_texts [] = []
further_texts (v ∷ vs) = further_text v ++ further_texts vs

-- in parentheses, and nothing where there are none
abbrev pub list_text : List Value → List ℕ
list_text [] = []
list_text (v ∷ vs) = codes "(" ++ value_text v ++ further_texts vs ++ codes ")"

-- ---- operators: X3.9-1978, 6.1.1, 6.3.1 and 6.4.1

abbrev pub sign_text : Sign → List ℕ
sign_text Plus = codes "+"
sign_text Minus = codes "-"

abbrev pub arithmetic_text : ArithmeticOperator → List ℕ
arithmetic_text Add = codes "+"
arithmetic_text Subtract = codes "-"
arithmetic_text Multiply = codes "*"
arithmetic_text Divide = codes "/"
arithmetic_text Power = codes "**"

abbrev pub relational_text : RelationalOperator → List ℕ
relational_text Less = codes ".LT."
relational_text LessOrEqual = codes ".LE."
relational_text Equal = codes ".EQ."
relational_text NotEqual = codes ".NE."
relational_text Greater = codes ".GT."
relational_text GreaterOrEqual = codes ".GE."

abbrev pub logical_text : LogicalOperator → List ℕ
logical_text And = codes ".AND."
logical_text Or = codes ".OR."
logical_text Equivalent = codes ".EQV."
logical_text NotEquivalent = codes ".NEQV."

abbrev pub operator_text : Operator → List ℕ
operator_text (Arithmetic o) = arithmetic_text o
operator_text (Relational o) = relational_text o
operator_text (Logical o) = logical_text o

-- the verb of an operator
abbrev pub arithmetic_verb : ArithmeticOperator → List ℕ
arithmetic_verb Add = codes "add "
arithmetic_verb Subtract = codes "subtract "
arithmetic_verb Multiply = codes "multiply "
arithmetic_verb Divide = codes "divide "
arithmetic_verb Power = codes "raise "

abbrev pub verb : Operator → List ℕ
verb (Arithmetic o) = arithmetic_verb o
verb (Relational o) = codes "compare "
verb (Logical o) = codes "combine "

-- ---- functions: 15.10, and docs/LANGUAGE.md, 8; where one has several names, the shortest

abbrev pub function_text : PureFunction → List ℕ
function_text AbsoluteValue = codes "ABS"
function_text Remainder = codes "MOD"
function_text TransferOfSign = codes "SIGN"
function_text PositiveDifference = codes "DIM"
function_text Largest = codes "MAX"
function_text Smallest = codes "MIN"

abbrev pub state_function_text : StateFunction → List ℕ
state_function_text IsFull = codes "FULL"
state_function_text IsEmpty = codes "EMPTY"
state_function_text ValueOf = codes "VALUE"
state_function_text SetEmpty = codes "SETE"
state_function_text WaitFull = codes "WAITF"
