use Rattle.hep_run.proofs.companion_files.read_text_file.Goals as goal

pub returns-in-Err-clause-unread : goal.returns-in-Err-clause-unread
returns-in-Err-clause-unread g c = (c.in-Err.ensures.lost, _, c.say_unread.ensures)
