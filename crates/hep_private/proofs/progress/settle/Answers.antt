use Rattle.std.proofs.Common.{◌≡◌, ◌+◌, [], ◌∷◌, ◌++◌, drop, length, take, sym, ap, ◌∙◌, append_assoc, arith, if◌then◌else◌}
use Rattle.hep_private.specs.OwnState.{pushed_ahead}
use Rattle.hep_private.proofs.Constants.{constant-front, take-kept}
use Rattle.hep_private.proofs.progress.settle.Goals as goal

pub loop-value-preserved : goal.loop-value-preserved
loop-value-preserved c =
    let code = c.args.code.now in
    let at = c.loop-value.at in
    let operands = c.loop-value.operands in
    let v = c.in-Some.value in
    let front = constant-front code at v (sym c.constant_at.ensures.value ∙ c.in-Some.is) in
    let pushed : c.push.new.self ≡ operands ++ v ∷ [] = c.push.ensures.operands ∙ ap (λ b. if b then operands ++ v ∷ [] else operands) c.if-not-push.false in
    record {
      ahead =
          ap (λ vs. vs ++ pushed_ahead (drop (at + 1) code)) pushed
          ∙ (append_assoc operands (v ∷ []) (pushed_ahead (drop (at + 1) code))
          ∙ (ap (λ vs. operands ++ vs) (sym front.0)
          ∙ c.loop-value.invariant.ahead));
      at = omega (arith, front.1, c.loop-value.invariant.at);
      kept = ap (take (length c.args.operands.now)) pushed ∙ take-kept c.args.operands.now operands (v ∷ []) c.loop-value.invariant.kept;
    }
