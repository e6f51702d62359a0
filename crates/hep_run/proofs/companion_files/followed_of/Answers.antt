use Rattle.hep_outcome.specs.Histories.{entry_text, IsAllowed}
use Rattle.hep_outcome.specs.OutcomeHistoryLines.{IsRefusedText}
use Rattle.hep_run.proofs.Messages.{said_at}
use Rattle.hep_run.proofs.companion_files.followed_of.Goals as goal

pub returns-in-Err : goal.returns-in-Err
returns-in-Err g c =
    said_at 601 (IsRefusedText entry_text IsAllowed c.args.text.now) c.in-Err.fault c.say_fault.result _ _ c.in-Err.ensures.refused c.say_fault.ensures
