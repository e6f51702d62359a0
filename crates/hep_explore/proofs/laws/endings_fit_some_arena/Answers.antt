use Rattle.hep_explore.proofs.Rooms.{ending_fits, ending_within}
use Rattle.hep_explore.proofs.laws.endings_fit_some_arena.Goals as goal

pub returns : goal.returns
returns c program e = (ending_fits program e, ending_within program e)
