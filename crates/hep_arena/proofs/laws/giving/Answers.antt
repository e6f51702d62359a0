use Rattle.hep_arena.proofs.Arenas.{out-given}
use Rattle.hep_arena.proofs.Blocks.{given-holes, out-kept}
use Rattle.hep_arena.proofs.Counting.{given-cells}
use Rattle.hep_arena.proofs.laws.giving.Goals as goal

pub returns : goal.returns
returns c = record {
  others = λ k at n hs. ((λ t. out-given k (at, n) hs t), (λ t. out-kept k (at, n) hs t.0 t.1));
  holes = given-holes;
  cells = given-cells;
}
