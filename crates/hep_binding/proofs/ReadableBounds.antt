-- What the code of a bound reads can be read where the sources of the names can: docs/MACHINE.md, "Variables and frames".
use Rattle.std.proofs.Common.{ℕ, List, [], ◌∷◌, ◌++◌, Option, Some, None}
use Rattle.hep_machine.specs.Words.{Dimension, UpperBound, Expression, Open, Name, Statement, Tree, Trees, constant, occurrence, with_list, parenthesized, signed, negated, binary, no_trees, trees, Meaning, element, external, pure, state, listed_meaning}
use Rattle.hep_arena.specs.Space.{Space}
use Rattle.hep_code.specs.Words.{count}
use Rattle.hep_step.specs.declared.dummy_storage.DummyStorage.{DummyStorage}
use Rattle.hep_code.specs.declared.bound.BoundOperation.{BoundOperation}
use Rattle.hep_code.specs.declared.bound.BoundOperation.TheVariants.{Sign, Not, Combine, Apply}
use Rattle.hep_code.specs.BoundCode.{Sources, code_of_listed, code_of_bound, code_of_bounds}
use Rattle.hep_code.specs.DimensionCode.{code_of_lower, code_from_upper, code_of_dimensions}
use Rattle.hep_binding.specs.DummyContents.{AreReadable, IsReadable}

module _ (space : Space) (given : List DummyStorage) where
  abbrev Readable : List BoundOperation → Type 0
  Readable = AreReadable space given

  both_readable : (os ps : List BoundOperation) → Readable os → Readable ps → Readable (os ++ ps)
  both_readable [] ps h i = i
  both_readable (o ∷ os) ps h i = (h.0, both_readable os ps h.1 i)

  listed_readable : (m : Meaning) (n : ℕ) (os : List BoundOperation) → Readable os → Readable (code_of_listed m n os)
  listed_readable (pure f) n os h = both_readable os (Apply f n ∷ []) h (tt, tt)
  listed_readable element n os h = (tt, tt)
  listed_readable (state f) n os h = (tt, tt)
  listed_readable external n os h = (tt, tt)

  module _ (unit : List Statement) (source : Sources) (sources : (x : Name) → IsReadable space given (source x)) where
    abbrev code : Tree → List BoundOperation
    code t = code_of_bound source unit t

    mutual
      tree_readable : (t : Tree) → Readable (code_of_bound source unit t)
      tree_readable (constant v) = (tt, tt)
      tree_readable (occurrence p) = (sources p.name, tt)
      tree_readable (with_list p ts) = listed_readable (listed_meaning unit p.name) (count ts) (code_of_bounds source unit ts) (trees_readable ts)
      tree_readable (parenthesized t) = tree_readable t
      tree_readable (signed s t) = both_readable (code t) (Sign s ∷ []) (tree_readable t) (tt, tt)
      tree_readable (negated t) = both_readable (code t) (Not ∷ []) (tree_readable t) (tt, tt)
      tree_readable (binary o a b) =
          both_readable (code a ++ code b) (Combine o ∷ []) (both_readable (code a) (code b) (tree_readable a) (tree_readable b)) (tt, tt)

      trees_readable : (ts : Trees) → Readable (code_of_bounds source unit ts)
      trees_readable no_trees = tt
      trees_readable (trees t ts) = both_readable (code t) (code_of_bounds source unit ts) (tree_readable t) (trees_readable ts)

    lower_readable : (t : Option Tree) → Readable (code_of_lower source unit t)
    lower_readable None = (tt, tt)
    lower_readable (Some t) = tree_readable t

    upper_readable : (u : UpperBound) (ds : List Dimension) (more : List BoundOperation) → Readable more → Readable (code_from_upper source unit u ds more)
    upper_readable (Expression t) ds more h = both_readable (code t) more (tree_readable t) h
    upper_readable Open [] more h = h
    upper_readable Open (d ∷ ds) more h = (tt, tt)

    pub bound_readable : (t : Tree) → Readable (code_of_bound source unit t)
    bound_readable t = tree_readable t

    pub dimensions_readable : (ds : List Dimension) → Readable (code_of_dimensions source unit ds)
    dimensions_readable [] = tt
    dimensions_readable (d ∷ ds) =
        let more = code_of_dimensions source unit ds in
        both_readable (code_of_lower source unit d.lower) (code_from_upper source unit d.upper ds more) (lower_readable d.lower) (upper_readable d.upper ds more (dimensions_readable ds))
