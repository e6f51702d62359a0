use Rattle.hep_proc.proofs.process.Process.go_on.Goals as goal

pub returns-clause-stack : goal.returns-clause-stack
returns-clause-stack c l ls operands pending is =
    λ i. let k = c.stand_at.ensures.stack l ls operands pending is i in record { levels = k.levels; operands = c.clear.ensures.items i; pending = k.pending }
