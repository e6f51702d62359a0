-- Actual arguments have no more subscripts than their code has instructions.
use Rattle.std.proofs.Common.{ℕ, ◌≤◌, List, [], ◌∷◌, length, arith, length-append, Option, Some, None}
use Rattle.hep_machine.specs.Words.{Tree, Trees, constant, occurrence, with_list, parenthesized, signed, negated, binary, trees_of, Name, Value, Meaning, element, pure, state, external}
use Rattle.hep_code.specs.declared.instruction.Instruction.{Instruction}
use Rattle.hep_code.specs.Words.{actuals_code_in, asked_code, listed_code, count, trees_code, actual_code, actual_name_code, actual_listed_code, argument_of, argument_of_name, argument_of_listed, NameTable}
use Rattle.hep_lower.specs.ArgumentLimits.{subscripts_of, subscripts_of_all}
use Rattle.hep_lower.proofs.CodeLengths.{count_long}

module _ (names : NameTable) (line : ℕ) where
  by_name : (o : Option Value) (x : Name) → subscripts_of (argument_of_name names o x) ≤ length (actual_name_code o)
  by_name None x = omega arith
  by_name (Some v) x = omega arith

  by_meaning : (m : Meaning) (x : Name) (ts : Trees) (code : List Instruction) → subscripts_of (argument_of_listed names m x (count ts)) ≤ length (actual_listed_code m (trees_code names line ts) code)
  by_meaning element x ts code = count_long names line ts
  by_meaning (pure f) x ts code = omega arith
  by_meaning (state f) x ts code = omega arith
  by_meaning external x ts code = omega arith

  pub actual_long : (t : Tree) → subscripts_of (argument_of names t) ≤ length (actual_code names line t)
  actual_long (constant v) = omega arith
  actual_long (occurrence p) = by_name (names.constants p.name) p.name
  actual_long (with_list p ts) = by_meaning (names.meanings p.name) p.name ts (listed_code names (names.meanings p.name) line p.name ts (trees_code names line ts) (asked_code names line ts) (actuals_code_in names line ts))
  actual_long (parenthesized t) = omega arith
  actual_long (signed s t) = omega arith
  actual_long (negated t) = omega arith
  actual_long (binary o a b) = omega arith

  -- those of a reference of a function
  pub given_long : (ts : List Tree) → subscripts_of_all (argument_of names) ts ≤ length (actuals_code_in names line (trees_of ts))
  given_long [] = omega arith
  given_long (t ∷ ts) = omega (arith, actual_long t, given_long ts, length-append (actual_code names line t) (actuals_code_in names line (trees_of ts)))
