use Rattle.hep_replay.specs.Choices.{choice_text, IsProcess}
use Rattle.hep_replay.specs.Histories.{entry_text, IsAllowed}
use Rattle.hep_replay.proofs.Readings.{one_refusal}
use Rattle.hep_replay.proofs.Digits.{choices_apart, entries_apart}
use Rattle.hep_replay.proofs.laws.one_bad_line.Goals as goal

pub returns-clause-histories : goal.returns-clause-histories
returns-clause-histories c = one_refusal entry_text IsAllowed entries_apart

pub returns-clause-choices : goal.returns-clause-choices
returns-clause-choices c = one_refusal choice_text IsProcess choices_apart
