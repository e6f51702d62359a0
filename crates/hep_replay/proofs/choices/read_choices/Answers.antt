use Rattle.hep_replay.proofs.Digits.{choices_apart}
use Rattle.hep_replay.proofs.choices.read_choices.Goals as goal

pub read_lines-requires-clause-apart : goal.read_lines-requires-clause-apart
read_lines-requires-clause-apart c = choices_apart
