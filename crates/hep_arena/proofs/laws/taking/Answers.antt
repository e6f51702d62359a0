use Rattle.hep_arena.proofs.Blocks.{block-new, block-out, fit-inside, out-taken}
use Rattle.hep_arena.proofs.Counting.{taken-cells}
use Rattle.hep_arena.proofs.Taking.{taken-apart}
use Rattle.hep_arena.proofs.laws.taking.Goals as goal

pub returns : goal.returns
returns c = record {
  others = out-taken;
  inside = λ cells n at hs t e. (fit-inside n at 0 cells hs t e).1;
  block = λ cells n at hs t e. block-out n at 0 cells hs t e;
  new = block-new;
  holes = λ cells n hs t. taken-apart n 0 cells hs t;
  cells = taken-cells;
}
