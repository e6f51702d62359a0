-- From the lines of a source to its units, for worked rows.
use Rattle.std.specs.Prelude.{ℕ, codes, List, [], ◌∷◌, ◌++◌, Result, Ok, Err}
use Prim.Native.String.{String}
use Rattle.hep_machine.specs.Words.{Units}
use Rattle.hep_text.specs.declared.statement.Stmt.{Stmt}
use Rattle.hep_text.specs.Line.{kind, labelled}
use Rattle.hep_text.specs.Reading.{columns, joined, statements_of}
use Rattle.hep_text.specs.Reading as text
use Rattle.hep_expression.specs.ReadingExpression as reading
use Rattle.hep_expression.specs.ReadingExpression.{chain, in_parentheses, primary, power_of, term, first_term, sum, relation, negation, conjunction, disjunction, expression, power, expression_at, whole_expression}
use Rattle.hep_parse.specs.ReadingLists as lists
use Rattle.hep_parse.specs.ReadingLists.{parts_after, closed, enclosed, optional, arguments_within, arguments}
use Rattle.hep_parse.specs.ReadingTarget.{target_at}
use Rattle.hep_parse.specs.ReadingConstant.{characters, constant_after, item_at}
use Rattle.hep_parse.specs.ReadingStatement.{print, assignment, computed_go_to, go_to, condition_at, arithmetic_if, if_then, else_if, limits, do_loop, call, create, purge, stop, worded, logical_if, conditions, form}
use Rattle.hep_parse.specs.Declaration.{function_header, subroutine_header, implicit_group_at, implicit, dimension_at, declarator_at, declare, dimension, parts_to_end, block_at, common, named_constant_at, parameter, data_value_at, group_at, data_statement}
use Rattle.hep_parse.specs.ReadingProgram.{Refusal, left_out, nameless_refusal, refusal_of, statement, placed, units, program}

-- ---- from lines to units

-- lines, each with the line feed at its end
abbrev pub text_of : List String → List ℕ
text_of [] = []
text_of (l ∷ ls) = codes l ++ 10 ∷ text_of ls

abbrev pub units_of_statements : Result (List Stmt) text.Refusal → Result Units Refusal
units_of_statements (Ok given) = program given
units_of_statements (Err e) = Err (e.number, e.line, [])

-- the program that is read from these lines
unfoldable pub units_of : List String → Result Units Refusal
unfolding statements_of columns joined kind labelled chain in_parentheses reading.arguments reading.listed reading.named primary power_of term first_term sum relation negation conjunction disjunction expression power expression_at whole_expression parts_after lists.listed closed enclosed optional arguments_within arguments lists.parenthesized target_at characters constant_after item_at print assignment computed_go_to go_to condition_at arithmetic_if if_then else_if limits do_loop call create purge stop subroutine_header function_header implicit_group_at implicit dimension_at declarator_at declare dimension parts_to_end block_at common named_constant_at parameter data_value_at group_at data_statement worded logical_if conditions form left_out nameless_refusal refusal_of statement placed units
units_of lines = units_of_statements (statements_of (text_of lines))
