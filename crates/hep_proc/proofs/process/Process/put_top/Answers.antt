use Rattle.std.proofs.Common.{◌-◌, reverse, ap, ◌∙◌, slice_set}
use Rattle.hep_proc.proofs.process.Process.put_top.Goals as goal
use Rattle.hep_proc.proofs.Levels.{last-set, operands-are, pending-are}

pub returns-clause-stack : goal.returns-clause-stack
returns-clause-stack c l ls operands pending is =
    let q = c.args.self.now in
    let levels = ap (λ n. reverse (slice_set q.levels.items (n - 1) c.args.level)) c.len-top.ensures ∙ last-set q l ls operands pending is c.args.level in
    λ i. record { levels = levels i; operands = operands-are q l ls operands pending is i; pending = pending-are q l ls operands pending is i }
