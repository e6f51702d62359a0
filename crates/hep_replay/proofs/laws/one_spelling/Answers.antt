use Rattle.hep_replay.specs.Choices.{choice_text, IsProcess}
use Rattle.hep_replay.specs.Histories.{entry_text, IsAllowed}
use Rattle.hep_replay.proofs.Readings.{same_texts}
use Rattle.hep_replay.proofs.Digits.{choices_apart, entries_apart}
use Rattle.hep_replay.proofs.laws.one_spelling.Goals as goal

pub returns-clause-histories : goal.returns-clause-histories
returns-clause-histories c = same_texts entry_text IsAllowed entries_apart

pub returns-clause-choices : goal.returns-clause-choices
returns-clause-choices c = same_texts choice_text IsProcess choices_apart
