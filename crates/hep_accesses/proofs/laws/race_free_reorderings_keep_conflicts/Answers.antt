use Rattle.std.proofs.Common.{◌≡◌, true}
use Rattle.hep_accesses.proofs.Reordered.{conflicts-kept}
use Rattle.hep_accesses.proofs.laws.race_free_reorderings_keep_conflicts.Goals as goal

pub returns : goal.returns
returns c same alike es keeps ys laws none edges r = conflicts-kept same alike laws es none (λ i j. keeps i j ≡ true) ys edges r
