use Rattle.hep_outcome.specs.Choices.{choice_text, IsProcess}
use Rattle.hep_outcome.specs.OutcomeHistoryLines.{IsRefusedText}
use Rattle.hep_run.proofs.Messages.{said_at}
use Rattle.hep_run.proofs.companion_files.choices_of.Goals as goal

pub returns-in-Err : goal.returns-in-Err
returns-in-Err g c =
    said_at 602 (IsRefusedText choice_text IsProcess c.args.text.now) c.in-Err.fault c.say_fault.result _ _ c.in-Err.ensures.refused c.say_fault.ensures
