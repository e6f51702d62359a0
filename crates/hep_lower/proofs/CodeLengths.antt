-- How long the code of lists is.
use Rattle.std.proofs.Common.{◌≡◌, ℕ, suc, ◌≤◌, List, [], ◌∷◌, ◌++◌, length, refl, ap, arith, map, length-append, Option, Some, None}
use Rattle.hep_machine.specs.Words.{Tree, Trees, constant, occurrence, with_list, parenthesized, signed, negated, binary, no_trees, trees, trees_of, Name, Value, Meaning, element, pure, state, external}
use Rattle.hep_code.specs.declared.instruction.Instruction.{Instruction}
use Rattle.hep_code.specs.declared.instruction.Instruction.TheVariants.{Pass, Step}
use Rattle.hep_code.specs.declared.instruction.Operation.TheVariants.{Refer}
use Rattle.hep_code.specs.Words.{actuals_code_in, argument_of, passes, count, name_code, listed_code, tree_code, trees_code, asked_code, NameTable}
use Rattle.hep_code.proofs.ListLengths.{count_length}

-- what stands behind a reference is what is passed
pub passes_map : (names : NameTable) (ts : List Tree) → passes names (trees_of ts) ≡ map (λ t. Pass (argument_of names t)) ts
passes_map names [] = refl
passes_map names (t ∷ ts) = ap (λ xs. Pass (argument_of names t) ∷ xs) (passes_map names ts)

pub passes_count : (names : NameTable) (ts : Trees) → length (passes names ts) ≡ count ts
passes_count names no_trees = refl
passes_count names (trees t ts) = ap suc (passes_count names ts)

last_long : (xs : List Instruction) (x : Instruction) → 1 ≤ length (xs ++ x ∷ [])
last_long xs x = omega (arith, length-append xs (x ∷ []))

module _ (names : NameTable) (line : ℕ) where
  name_long : (o : Option Value) (x : Name) → 1 ≤ length (name_code names line o x)
  name_long None x = omega arith
  name_long (Some v) x = omega arith

  listed_long : (m : Meaning) (x : Name) (ts : Trees) (list subscripts actuals : List Instruction) → 1 ≤ length (listed_code names m line x ts list subscripts actuals)
  listed_long element x ts list subscripts actuals = last_long list _
  listed_long (pure f) x ts list subscripts actuals = last_long list _
  listed_long (state f) x ts list subscripts actuals = last_long subscripts _
  listed_long external x ts list subscripts actuals = omega (arith, length-append actuals (Step line (Refer (names.functions x) (count ts)) ∷ passes names ts))

  -- no expression is without code
  pub tree_long : (t : Tree) → 1 ≤ length (tree_code names line t)
  tree_long (constant v) = omega arith
  tree_long (occurrence p) = name_long (names.constants p.name) p.name
  tree_long (with_list p ts) = listed_long (names.meanings p.name) p.name ts (trees_code names line ts) (asked_code names line ts) (actuals_code_in names line ts)
  tree_long (parenthesized t) = tree_long t
  tree_long (signed s t) = last_long (tree_code names line t) _
  tree_long (negated t) = last_long (tree_code names line t) _
  tree_long (binary o a b) = last_long (tree_code names line a ++ tree_code names line b) _

  pub count_long : (ts : Trees) → count ts ≤ length (trees_code names line ts)
  count_long no_trees = omega arith
  count_long (trees t ts) = omega (arith, tree_long t, count_long ts, length-append (tree_code names line t) (trees_code names line ts))

  pub trees_long : (ts : List Tree) → length ts ≤ length (trees_code names line (trees_of ts))
  trees_long ts = omega (arith, count_long (trees_of ts), count_length ts)
