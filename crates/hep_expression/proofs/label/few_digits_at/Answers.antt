use Rattle.std.proofs.Common.{Some, sym, ap, ◌∙◌}
use Rattle.hep_expression.proofs.Labels.{shorter, many, small, no_refusal, number_is}
use Rattle.hep_expression.proofs.label.few_digits_at.Goals as goal

pub overflow_sub-digits : goal.overflow_sub-digits
overflow_sub-digits c = shorter c.args.s.now c.in_ok-value.value c.in_ok-value.rest.now (sym c.in_ok-value.ensures)

pub returns-then-digits-gt-MOST_DIGITS : goal.returns-then-digits-gt-MOST_DIGITS
returns-then-digits-gt-MOST_DIGITS c = many c.args.s.now c.in_ok-value.value c.in_ok-value.rest.now (sym c.in_ok-value.ensures) c.if-digits-gt-MOST_DIGITS.true

pub returns-in_err-number : goal.returns-in_err-number
returns-in_err-number c =
    let found = small c.args.s.now c.in_ok-value.value c.in_ok-value.rest.now (sym c.in_ok-value.ensures) c.if-digits-gt-MOST_DIGITS.false in
    absurd (no_refusal c.in_ok-value.value found.0 found.1 found.2 c.try_from.result c.try_from.ensures c.in_err-number.ensures.variant)

pub returns : goal.returns
returns c =
    let found = small c.args.s.now c.in_ok-value.value c.in_ok-value.rest.now (sym c.in_ok-value.ensures) c.if-digits-gt-MOST_DIGITS.false in
    let same = number_is c.in_ok-value.value found.0 found.1 found.2 c.try_from.result c.in_ok-number.number c.try_from.ensures c.in_ok-number.ensures.value in
    ap (λ n. Some (n, c.in_ok-value.rest.now)) same ∙ found.3
