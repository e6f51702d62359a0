use Rattle.std.proofs.Common.{length}
use Rattle.hep_parse.proofs.keyword.+name_at.Given as goal

abbrev pub decreases-name_at : goal.decreases-name_at
decreases-name_at l = length l.words.now
