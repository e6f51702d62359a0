use Rattle.hep_workers.proofs.threads.run_shared.Given as goal

abbrev pub ghosts-share : goal.ghosts-share
ghosts-share g a = record { opening = a.core.core; workers = a.workers }
