use Rattle.std.proofs.Common.{inl, inr, ap, ◌∙◌}
use Rattle.hep_arena.proofs.Limits.{last-given}
use Rattle.hep_arena.proofs.holes.Holes.give_last.Goals as goal
use Rattle.hep_arena.proofs.holes.Holes.give_last.Goals.{then-start-at, else-start-at}

pub returns : goal.returns
returns c =
    let h = c.args.self.now in let r = c.requires in
    let given = last-given c.args.at h.limit c.start_at-start.result h.lengths c.if-start-at.self.lengths r.limited.lower r.below r.limited.inside r.out c.start_at-start.ensures (elim c.if-start-at.branch [
      | then-start-at w ↦ inl (w.if-start-at.true, ap (λ k. k.lengths) w.self-is ∙ w.set.ensures.numbers)
      | else-start-at w ↦ inr (w.if-start-at.false, ap (λ k. k.lengths) w.self-is)
    ]) in
    record { holes = given.0; limited = given.1; cells = given.2 }
