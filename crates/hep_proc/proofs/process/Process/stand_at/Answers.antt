use Rattle.std.proofs.Common.{◌≡◌, ◌-◌, ◌∷◌, get_or, reverse, ap, ◌∙◌, slice_set}
use Rattle.hep_proc.proofs.process.Process.stand_at.Goals as goal
use Rattle.hep_proc.proofs.Levels.{last-is, last-set, operands-are, pending-are}

pub returns-clause-stack : goal.returns-clause-stack
returns-clause-stack c l ls operands pending is =
    let q = c.args.self.now in
    let was = c.index_mut.result.now in
    let same : was ≡ l = c.index_mut.ensures.value ∙ (ap (λ n. get_or q.levels.items (n - 1) was) c.len-top.ensures ∙ last-is q l ls operands pending is was) in
    let levels = ap (λ n. reverse (slice_set q.levels.items (n - 1) (record was { index = c.args.index }))) c.len-top.ensures ∙ last-set q l ls operands pending is (record was { index = c.args.index }) in
    λ i. record {
      levels = (levels ∙ (λ j. record (same j) { index = c.args.index } ∷ ls)) i;
      operands = operands-are q l ls operands pending is i;
      pending = pending-are q l ls operands pending is i;
    }
