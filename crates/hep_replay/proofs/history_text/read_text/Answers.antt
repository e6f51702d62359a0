use Rattle.hep_replay.proofs.Digits.{entries_apart}
use Rattle.hep_replay.proofs.history_text.read_text.Goals as goal

pub read_lines-requires-clause-apart : goal.read_lines-requires-clause-apart
read_lines-requires-clause-apart c = entries_apart
