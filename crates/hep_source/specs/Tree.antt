-- Expressions as pure values.
use Rattle.std.specs.Prelude.{ℕ, ◌+◌, List, [], ◌∷◌}
use Rattle.hep_source.specs.declared.value.Value.{Value}
use Rattle.hep_source.specs.declared.name.Occurrence.{Occurrence}
use Rattle.hep_source.specs.declared.operator.Sign.{Sign}
use Rattle.hep_source.specs.declared.operator.Operator.{Operator}

mutual
  -- an expression: X3.9-1978, section 6
  pub data Tree : Type 0 where
    constant : (v : Value) → Tree
    occurrence : (p : Occurrence) → Tree
    -- a name with a list: an array element or a function reference (5.3, 15.2)
    with_list : (p : Occurrence) (arguments : Trees) → Tree
    parenthesized : (inner : Tree) → Tree
    signed : (s : Sign) (term : Tree) → Tree
    negated : (t : Tree) → Tree
    binary : (o : Operator) (a b : Tree) → Tree

  -- a list of expressions
  pub data Trees : Type 0 where
    no_trees : Trees
    trees : (first : Tree) (more : Trees) → Trees

abbrev pub trees_of : List Tree → Trees
trees_of [] = no_trees
trees_of (t ∷ ts) = trees t (trees_of ts)

abbrev pub list_of : Trees → List Tree
list_of no_trees = []
list_of (trees t ts) = t ∷ list_of ts

abbrev mutual
  -- the number of nodes of a tree
  pub nodes : Tree → ℕ
  nodes (constant v) = 1
  nodes (occurrence p) = 1
  nodes (with_list p ts) = 1 + nodes_of_all ts
  nodes (parenthesized t) = 1 + nodes t
  nodes (signed s t) = 1 + nodes t
  nodes (negated t) = 1 + nodes t
  nodes (binary o a b) = 1 + nodes a + nodes b

  pub nodes_of_all : Trees → ℕ
  nodes_of_all no_trees = 0
  nodes_of_all (trees t ts) = 1 + nodes t + nodes_of_all ts
