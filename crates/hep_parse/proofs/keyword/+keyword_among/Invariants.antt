use Rattle.std.proofs.Common.{length}
use Rattle.hep_parse.proofs.keyword.+keyword_among.Given as goal

abbrev pub decreases-keyword_among : goal.decreases-keyword_among
decreases-keyword_among l = length l.among.now
