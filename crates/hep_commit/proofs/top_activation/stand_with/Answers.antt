use Rattle.hep_commit.proofs.top_activation.stand_with.Goals as goal

pub returns-clause-stack : goal.returns-clause-stack
returns-clause-stack c l ls operands pending is =
    c.stand_at.ensures.stack l ls c.args.operands.now pending (λ i. record { levels = (is i).levels; operands = c.refill.ensures.values i; pending = (is i).pending })
