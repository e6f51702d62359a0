-- 302, as one pass over a unit finds it.
use Rattle.std.specs.Prelude.{ℕ, not, List, [], ◌∷◌, Option, None}
use Rattle.hep_machine.specs.Words.{Statement, constants_in}
use Rattle.hep_conditions.specs.Words.{FunctionTypes, Parameters, with_parameters, is_statement_typed, least_line, line_when}

-- the constants that a unit has after a statement
abbrev pub parameters_after : List Statement → Parameters → Statement → Parameters
parameters_after unit ps s = with_parameters unit ps (constants_in s.form)

-- the least line of a statement that violates 302
abbrev pub least_untyped : FunctionTypes → List Statement → Parameters → List Statement → Option ℕ
least_untyped functions unit ps [] = None
least_untyped functions unit ps (s ∷ ss) = least_line (line_when (not (is_statement_typed functions unit ps s)) s.line) (least_untyped functions unit (parameters_after unit ps s) ss)
