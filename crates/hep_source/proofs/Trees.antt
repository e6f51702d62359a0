-- Trees in a row and lists of trees.
use Rattle.std.proofs.Common.{◌≡◌, List, [], ◌∷◌, refl, ap}
use Rattle.hep_source.specs.Tree.{Tree, list_of, trees_of}

-- the list of the trees that a list was made into is that list
pub list_of_trees : (ts : List Tree) → list_of (trees_of ts) ≡ ts
list_of_trees [] = refl
list_of_trees (t ∷ ts) = ap (λ us. t ∷ us) (list_of_trees ts)
