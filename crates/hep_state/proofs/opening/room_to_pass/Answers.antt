use Rattle.std.proofs.Common.{◌≡◌, ◌∙◌, length, ap}
use Rattle.hep_machine.specs.Words.{Units, dummies_of, unit_at}
use Rattle.hep_step.specs.TargetCount.{most_of}
use Rattle.hep_state.proofs.opening.room_to_pass.Goals as goal

pub returns : goal.returns
returns c =
    let program = c.args.image.now in
    let most : c.most_dummies-most.result ≡ most_of (λ u. length (dummies_of (unit_at program u))) (length program) =
    c.most_dummies-most.ensures ∙ ap (λ (p : Units). most_of (λ u. length (dummies_of (unit_at p u))) (length p)) (c.as_slice.ensures ∙ c.program.ensures) in
    record {
      given = c.in_ok-with_capacity.ensures.exact ∙ most;
      shapes = c.in_ok-with_capacity-2.ensures.exact ∙ most;
      values = c.in_ok-with_capacity-3.ensures.exact ∙ c.longest_code_of_all.ensures;
      ranges = c.in_ok-with_capacity-4.ensures.exact ∙ c.most_targets_of_all.ensures;
    }
