use Rattle.std.proofs.Common.{ℤ, ◌+ℤ◌, ◌-◌, pos, FitsSigned, Some, to_z, of_z, w64, sym, ap, ◌∙◌, rules}
use Rattle.std.proofs.lemmas.Int.{to_z-of_z}
use Rattle.hep_machine.specs.Words.{integer_of, integer_or_overflow, natural}
use Rattle.hep_code.specs.Words.{led_by_count}
use Rattle.hep_private.specs.StepRecords.{if_ok}
use Rattle.hep_private.specs.PrivateSteps.{here_own}
use Rattle.hep_private.proofs.LoopEnds.{made-end, no-end}
use Rattle.hep_private.proofs.loops.raise.Goals as goal

pub returns-in-Some : goal.returns-in-Some
returns-in-Some c =
    let own = here_own c.args.here.now in
    let o = c.args.ended.operation in
    let v = c.args.value in
    let count = c.count_at-first_count.result.1 in
    let increment = c.increment_at-first_increment.result.1 in
    let fits_raised : FitsSigned w64 c.in-Some.raised = search rules in
    let fits_count : FitsSigned w64 count = search rules in
    let fits_increment : FitsSigned w64 increment = search rules in
    let fits_left : FitsSigned w64 c.one_less.result = search rules in
    let is_count = to_z-of_z w64 count fits_count ∙ c.count_at-first_count.ensures.count in
    let is_increment = to_z-of_z w64 increment fits_increment ∙ c.increment_at-first_increment.ensures.increment in
    made-end own o c.args.cell c.args.ended.cells v c.args.first_variable c.count_at-first_count.result.0 c.increment_at-first_increment.result.0 (to_z w64 (of_z w64 c.in-Some.raised)) (to_z w64 (of_z w64 count))
    (to_z w64 (of_z w64 increment)) c.led_by_count.result c.requires c.count_at-first_count.ensures.first c.increment_at-first_increment.ensures.first is_count is_increment
    (ap (λ z. if_ok (integer_or_overflow (integer_of v +ℤ z))) (sym is_increment) ∙ (sym c.raised_by.ensures ∙ (c.in-Some.is ∙ ap (λ (z : ℤ). Some z) (sym (to_z-of_z w64 c.in-Some.raised fits_raised)))))
    (c.led_by_count.ensures.value
    ∙ ap (λ z. led_by_count o (natural z) c.args.here.now.index) (to_z-of_z w64 c.one_less.result fits_left ∙ (c.one_less.ensures ∙ ap (λ z. pos (natural z - 1)) is_count)))

pub returns-in-None : goal.returns-in-None
returns-in-None c =
    let own = here_own c.args.here.now in
    let v = c.args.value in
    let increment = c.increment_at-first_increment.result.1 in
    let fits_increment : FitsSigned w64 increment = search rules in
    let is_increment = to_z-of_z w64 increment fits_increment ∙ c.increment_at-first_increment.ensures.increment in
    sym (
    no-end own c.args.ended.operation c.args.cell c.args.ended.cells v (
    ap (λ z. if_ok (integer_or_overflow (integer_of v +ℤ z))) (sym is_increment) ∙ (sym c.raised_by.ensures ∙ c.in-None.is)))
