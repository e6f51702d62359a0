-- Each argument of a list has fewer nodes than all of them, and a row of trees is the list that it was made from.
use Rattle.std.specs.Prelude.{IsTrue, Bool}
use Rattle.std.proofs.Common.{◌≡◌, ℕ, zero, suc, ◌<◌, List, [], ◌∷◌, length, get_or, arith, ap, sym, ◌∙◌}
use Rattle.hep_source.specs.declared.name.Occurrence.{Occurrence}
use Rattle.hep_source.specs.Tree.{Tree, with_list, trees, trees_of, nodes, nodes_of_all, list_of}
use Rattle.hep_source.proofs.Trees.{list_of_trees}

pub child_less : (ts : List Tree) (i : ℕ) (t : Tree) → i < length ts → nodes (get_or ts i t) < nodes_of_all (trees_of ts)
child_less [] i t h = absurd (omega arith)
child_less (u ∷ ts) zero t h = omega arith
child_less (u ∷ ts) (suc i) t h = let h' : i < length ts = omega arith in omega (arith, child_less ts i t h')

same_trees : (a b : List Tree) → trees_of a ≡ trees_of b → a ≡ b
same_trees a b e = sym (list_of_trees a) ∙ ap list_of e ∙ list_of_trees b

pub same_listed : (f g : Occurrence) (xs ys : List Tree) (a b : Tree) (r : Bool) → a ≡ with_list f (trees_of xs) → b ≡ with_list g (trees_of ys) → f ≡ g → (IsTrue r → xs ≡ ys) × (xs ≡ ys → IsTrue r) → (IsTrue r → a ≡ b) × (a ≡ b → IsTrue r)
same_listed f g xs ys a b r ea eb e h =
    (λ t. ea ∙ (λ i. with_list (e i) (trees_of (h.0 t i))) ∙ sym eb, λ ab. h.1 (same_trees xs ys (let k : with_list f (trees_of xs) ≡ with_list g (trees_of ys) = sym ea ∙ ab ∙ eb in cc)))
