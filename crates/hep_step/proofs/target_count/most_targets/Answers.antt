use Rattle.std.proofs.Common.{◌≡◌, ◌+◌, ◌∙◌, ℕ, suc, max, Some, ap, sym, subst, arith, slice_get}
use Rattle.std.proofs.lemmas.Option.{slice_get-get_or}
use Rattle.hep_step.specs.TargetCount.{most_of, targets_in}
use Rattle.hep_step.proofs.target_count.most_targets.Goals as goal

pub loop-instruction-preserved : goal.loop-instruction-preserved
loop-instruction-preserved c =
    let i = c.loop-instruction.instruction-index in
    let number : ℕ → ℕ = λ k. targets_in (slice_get c.args.code.now k) in
    let more : suc i ≡ i + 1 = omega arith in
    let here : c.targets_of.result ≡ number i = c.targets_of.ensures ∙ ap targets_in (sym (slice_get-get_or c.args.code.now i c.instruction-item.result c.loop-instruction-test.true ∙ ap Some (sym c.instruction-item.is))) in
    let next : c.max-most.result ≡ max (most_of number i) (number i) = grind (arith, c.max-most.ensures, c.loop-instruction.invariant, here) in
    subst (λ n. c.max-most.result ≡ most_of number n) more next
