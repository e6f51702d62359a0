-- How long lists are.
use Rattle.std.proofs.Common.{◌≡◌, suc, List, [], ◌∷◌, length, refl, ap}
use Rattle.hep_machine.specs.Words.{Tree, trees_of}
use Rattle.hep_code.specs.Words.{count}

-- a row of trees counts as many as the list that it is made of
pub count_length : (ts : List Tree) → count (trees_of ts) ≡ length ts
count_length [] = refl
count_length (t ∷ ts) = ap suc (count_length ts)
