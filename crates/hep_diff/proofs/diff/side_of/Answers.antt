use Rattle.hep_diff.proofs.diff.side_of.Goals as goal

pub returns-clause-steps : goal.returns-clause-steps
returns-clause-steps c = record { replayed = c.requires.replayed; steps = c.in_ok-logs.ensures }
