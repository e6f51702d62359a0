use Rattle.hep_explore.proofs.LargerArenas.{fits_larger}
use Rattle.hep_explore.proofs.laws.endings_fit_larger_arenas.Goals as goal

pub returns : goal.returns
returns c program small large le e ending = fits_larger program small large le e ending
