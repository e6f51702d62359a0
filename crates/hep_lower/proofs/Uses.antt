-- A name with a list, by what is done with its values, and an actual argument, by what is referred to.
use Rattle.std.proofs.Common.{◌≡◌, ℕ, ◌≤◌, List, ◌++◌, length, length-append, refl, ap, arith, Option, Some, None}
use Rattle.hep_machine.specs.Words.{Tree, Trees, constant, occurrence, with_list, parenthesized, signed, negated, binary, no_trees, nodes, nodes_of_all, Name, Value, Meaning, element, pure, state, external}
use Rattle.hep_code.specs.declared.instruction.Instruction.{Instruction}
use Rattle.hep_code.specs.declared.instruction.Evaluation.{Evaluation}
use Rattle.hep_code.specs.declared.instruction.Evaluation.TheVariants.{Load, Apply, Test}
use Rattle.hep_code.specs.Words.{actual_code, actual_name_code, actual_listed_code, actuals_code_in, asked, asked_code, count, evaluating, listed_code, name_code, NameTable, tree_code, trees_code}
use Rattle.hep_lower.specs.StateFunctionSubscripts.{subscripts_asked}
use Rattle.hep_lower.specs.Uses.{evaluation_listed, operands_listed, reference_code, subscripts_of_name, subscripts_of_listed, subscripts_referred}
use Rattle.hep_lower.proofs.StateFunctionCode.{asked_is, asked_nodes}
use Rattle.hep_lower.proofs.CodeLengths.{count_long, passes_count}

module _ (names : NameTable) (line : ℕ) where
  -- ---- a name with a list

  abbrev pub whole : Meaning → Name → Trees → List Instruction
  whole m x ts = listed_code names m line x ts (trees_code names line ts) (asked_code names line ts) (actuals_code_in names line ts)

  -- its code is that of what the values are of, and then what is done with them
  pub listed_evaluated : (m : Meaning) (x : Name) (ts : Trees) (e : Evaluation) → Some e ≡ evaluation_listed names m x ts
      → whole m x ts ≡ trees_code names line (operands_listed names m ts) ++ evaluating line e
  listed_evaluated element x ts e same = cc
  listed_evaluated (pure f) x ts e same = cc
  listed_evaluated (state f) x ts e same = rw (asked_is names line ts) cc
  listed_evaluated external x ts e same = cc

  -- that of a function of the program is its actual arguments, and then the reference
  pub listed_referred : (m : Meaning) (x : Name) (ts : Trees) → None ≡ evaluation_listed names m x ts
      → whole m x ts ≡ actuals_code_in names line ts ++ reference_code names line x ts
  listed_referred element x ts same = cc
  listed_referred (pure f) x ts same = cc
  listed_referred (state f) x ts same = cc
  listed_referred external x ts same = refl

  -- what the values are of is no longer than the code
  pub listed_long : (m : Meaning) (x : Name) (ts : Trees) → count (operands_listed names m ts) ≤ length (whole m x ts)
  listed_long element x ts = omega (arith, count_long names line ts, length-append (trees_code names line ts) (evaluating line (Load (names.variables x) (count ts))))
  listed_long (pure f) x ts = omega (arith, count_long names line ts, length-append (trees_code names line ts) (evaluating line (Apply f (count ts))))
  listed_long (state f) x ts =
      let of = asked names ts in
      let xs = subscripts_asked names ts in
      omega (arith, count_long names line xs, ap length (asked_is names line ts), length-append (asked_code names line ts) (evaluating line (Test f (names.variables of.0) of.1)))
  listed_long external x ts = omega (arith, passes_count names ts, length-append (actuals_code_in names line ts) (reference_code names line x ts))

  -- ---- an actual argument: its subscripts, where it is referred to, and else its value

  name_referred : (o : Option Value) (xs : Trees) → Some xs ≡ subscripts_of_name o → actual_name_code o ≡ trees_code names line xs
  name_referred None xs same = cc
  name_referred (Some v) xs same = cc

  listed_by_reference : (m : Meaning) (ts xs : Trees) (code : List Instruction) → Some xs ≡ subscripts_of_listed m ts
      → actual_listed_code m (trees_code names line ts) code ≡ trees_code names line xs
  listed_by_reference element ts xs code same = cc
  listed_by_reference (pure f) ts xs code same = cc
  listed_by_reference (state f) ts xs code same = cc
  listed_by_reference external ts xs code same = cc

  pub actual_referred : (t : Tree) (xs : Trees) → Some xs ≡ subscripts_referred names t → actual_code names line t ≡ trees_code names line xs
  actual_referred (constant v) xs same = cc
  actual_referred (occurrence p) xs same = name_referred (names.constants p.name) xs same
  actual_referred (with_list p ts) xs same = listed_by_reference (names.meanings p.name) ts xs (whole (names.meanings p.name) p.name ts) same
  actual_referred (parenthesized t) xs same = cc
  actual_referred (signed s t) xs same = cc
  actual_referred (negated t) xs same = cc
  actual_referred (binary o a b) xs same = cc

  name_evaluated : (o : Option Value) (x : Name) → None ≡ subscripts_of_name o → actual_name_code o ≡ name_code names line o x
  name_evaluated None x same = cc
  name_evaluated (Some v) x same = refl

  listed_by_value : (m : Meaning) (ts : Trees) (list code : List Instruction) → None ≡ subscripts_of_listed m ts → actual_listed_code m list code ≡ code
  listed_by_value element ts list code same = cc
  listed_by_value (pure f) ts list code same = refl
  listed_by_value (state f) ts list code same = refl
  listed_by_value external ts list code same = refl

  pub actual_evaluated : (t : Tree) → None ≡ subscripts_referred names t → actual_code names line t ≡ tree_code names line t
  actual_evaluated (constant v) same = refl
  actual_evaluated (occurrence p) same = name_evaluated (names.constants p.name) p.name same
  actual_evaluated (with_list p ts) same = listed_by_value (names.meanings p.name) ts (trees_code names line ts) (whole (names.meanings p.name) p.name ts) same
  actual_evaluated (parenthesized t) same = refl
  actual_evaluated (signed s t) same = refl
  actual_evaluated (negated t) same = refl
  actual_evaluated (binary o a b) same = refl

-- ---- what is gone over is a part

module _ (names : NameTable) where
  pub operands_nodes : (m : Meaning) (ts : Trees) → nodes_of_all (operands_listed names m ts) ≤ nodes_of_all ts
  operands_nodes element ts = omega arith
  operands_nodes (pure f) ts = omega arith
  operands_nodes (state f) ts = asked_nodes names ts
  operands_nodes external ts = omega arith

  same_nodes : (xs ys : Trees) → Some xs ≡ Some ys → nodes_of_all xs ≡ nodes_of_all ys
  same_nodes xs ys same = cc

  by_name_nodes : (o : Option Value) (xs : Trees) (n : ℕ) → Some xs ≡ subscripts_of_name o → nodes_of_all xs ≤ n
  by_name_nodes None xs n same = omega (arith, same_nodes xs no_trees same)
  by_name_nodes (Some v) xs n same = cc

  by_meaning_nodes : (m : Meaning) (ts xs : Trees) → Some xs ≡ subscripts_of_listed m ts → nodes_of_all xs ≤ nodes_of_all ts
  by_meaning_nodes element ts xs same = omega (arith, same_nodes xs ts same)
  by_meaning_nodes (pure f) ts xs same = cc
  by_meaning_nodes (state f) ts xs same = cc
  by_meaning_nodes external ts xs same = cc

  pub referred_nodes : (t : Tree) (xs : Trees) → Some xs ≡ subscripts_referred names t → nodes_of_all xs ≤ nodes t
  referred_nodes (constant v) xs same = cc
  referred_nodes (occurrence p) xs same = by_name_nodes (names.constants p.name) xs (nodes (occurrence p)) same
  referred_nodes (with_list p ts) xs same = omega (arith, by_meaning_nodes (names.meanings p.name) ts xs same)
  referred_nodes (parenthesized t) xs same = cc
  referred_nodes (signed s t) xs same = cc
  referred_nodes (negated t) xs same = cc
  referred_nodes (binary o a b) xs same = cc
