use Rattle.hep_arena.proofs.Blocks.{given-taken}
use Rattle.hep_arena.proofs.laws.giving_undoes_taking.Goals as goal

pub returns : goal.returns
returns c cells n at hs t some e = given-taken n at 0 cells hs t some e
