use Rattle.std.proofs.Common.{◌≡◌, ◌<◌, ℕ, zero, suc, List, [], ◌∷◌, drop, length, Some, sym, ap, ◌∙◌, subst, arith, slice_get}
use Rattle.std.proofs.lemmas.Bool.Decides.{nat_tests}
use Rattle.std.proofs.lemmas.Option.{none-some, same_Some, slice_get-get_or}
use Rattle.hep_code.specs.declared.instruction.Instruction.{Instruction}
use Rattle.hep_code.specs.declared.instruction.Instruction.TheVariants.{Step}
use Rattle.hep_state.specs.Words.{IsInFront}
use Rattle.hep_state.proofs.next_step.ahead_at.Goals as goal

-- what is there is in front of what is behind it
in-front : (code : List Instruction) (index : ℕ) (x : Instruction) (P : List Instruction → Type 0) → slice_get code index ≡ Some x → ((behind : List Instruction) → P (x ∷ behind)) → P (drop index code)
in-front [] index x P e each = absurd (none-some x e)
in-front (y ∷ ys) zero x P e each = subst (λ z. P (z ∷ ys)) (sym (same_Some y x e)) (each ys)
in-front (y ∷ ys) (suc i) x P e each = in-front ys i x P e each

pub returns-in-Some-Step : goal.returns-in-Some-Step
returns-in-Some-Step c =
    let code = c.args.code.now in
    let index = c.args.index in
    let found = c.in-Some-Step.ensures.lookup in
    let inside : index < length code = grind (arith, nat_tests, found.0) in
    let there = slice_get-get_or code index c.in-Some-Step.field-0.now inside ∙ ap (λ x. Some x) (sym found.1 ∙ c.in-Some-Step.field-0-is) in
    in-front code index (Step c.in-Some-Step.line c.in-Some-Step.operation) (λ is. IsInFront index is c.as_ahead.result) there c.as_ahead.ensures
