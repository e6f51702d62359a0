use Rattle.std.proofs.Common.{length}
use Rattle.hep_command.proofs.refusal_texts.+explanation_among.Given as goal

abbrev pub decreases-explanation_among : goal.decreases-explanation_among
decreases-explanation_among l = length l.explanations.now
