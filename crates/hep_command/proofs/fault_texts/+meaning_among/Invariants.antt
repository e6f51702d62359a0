use Rattle.std.proofs.Common.{length}
use Rattle.hep_command.proofs.fault_texts.+meaning_among.Given as goal

abbrev pub decreases-meaning_among : goal.decreases-meaning_among
decreases-meaning_among l = length l.meanings.now
