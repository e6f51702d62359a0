use Rattle.std.proofs.Common.{length}
use Rattle.hep_parse.proofs.declaration.+only_last_open.Given as goal

abbrev pub decreases-only_last_open : goal.decreases-only_last_open
decreases-only_last_open l = length l.dimensions.now
