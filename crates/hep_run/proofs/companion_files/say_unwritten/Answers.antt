use Rattle.hep_run.proofs.Messages.{of_either}
use Rattle.hep_run.proofs.companion_files.say_unwritten.Goals as goal

pub returns-clause-said : goal.returns-clause-said
returns-clause-said g c = of_either c.put_write_fault.result _ _ _ c.put_write_fault.ensures.all c.put_write_fault.ensures.some
