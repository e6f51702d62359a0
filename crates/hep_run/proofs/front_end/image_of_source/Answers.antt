use Rattle.hep_conditions.specs.Words.{IsAccepted}
use Rattle.hep_run.proofs.Wanted.{program-small, want-anyway}
use Rattle.hep_run.proofs.RefusalNotes.{noted_limit}
use Rattle.hep_run.proofs.front_end.image_of_source.Goals as goal

pub returns-in-Err-clause-refused : goal.returns-in-Err-clause-refused
returns-in-Err-clause-refused c =
    noted_limit c.args.long c.args.source.now c.in_ok-checked.checked c.in-Err.refusal c.refused_at_line.result
    c.in_ok-checked.ensures.made c.in-Err.ensures.refused c.refused_at_line.ensures.told

pub returns-in-Err-clause-wanted : goal.returns-in-Err-clause-wanted
returns-in-Err-clause-wanted c = want-anyway c.args.long c.args.source.now c.refused_at_line.result (program-small IsAccepted _ _ c.in_ok-checked.ensures.made)
