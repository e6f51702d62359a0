use Rattle.std.proofs.Common.{◌≡◌, ℕ, ◌<◌, length, get_or, sym, ap, ◌∙◌, arith, List, take, ◌∷◌, get_or-take, subst}
use Rattle.std.specs.Int.{IsInRange}
use Rattle.std.specs.Char.{is_ascii_digit}
use Rattle.std.proofs.lemmas.List.Sums.{prefix_len-le-length}
use Rattle.hep_output.proofs.Digits.{cut, front_digits, if_none}
use Rattle.hep_output.proofs.number.number_before.Goals as goal

pub split_at-requires : goal.split_at-requires
split_at-requires c = omega (arith, c.digit_count.ensures, prefix_len-le-length is_ascii_digit c.args.text.now)

pub returns-in_err-last-clause-none : goal.returns-in_err-last-clause-none
returns-in_err-last-clause-none c = if_none c.from_residual.result _ (λ n more h e.
    let parts = cut c.args.text.now n c.args.mark c.digit_count.result more (omega arith) c.requires.mark c.digit_count.ensures e in
    let rest_after : length c.split_at.result.1.now ≡ length (c.args.mark ∷ more) = ap length (c.split_at.ensures.back ∙ parts.1) in
    omega (arith, rest_after, c.in_err-last.ensures.cases))

pub returns-then-last-mark-clause-none : goal.returns-then-last-mark-clause-none
returns-then-last-mark-clause-none c n more h e =
    let parts = cut c.args.text.now n c.args.mark c.digit_count.result more (omega arith) c.requires.mark c.digit_count.ensures e in
    let rest_after : c.in_ok-last.last.now ∷ c.in_ok-last.rest.now ≡ c.args.mark ∷ more = sym c.in_ok-last.ensures.cases.0 ∙ c.split_at.ensures.back ∙ parts.1 in
    c.if-last-mark.true (cc (rest_after))

pub number_of-requires-clause-digits : goal.number_of-requires-clause-digits
number_of-requires-clause-digits c k h =
    let front : c.split_at.result.0.now ≡ take c.digit_count.result c.args.text.now = c.split_at.ensures.front in
    let below : k < c.digit_count.result = omega (arith, c.split_at.ensures.front_len) in
    let same : get_or c.split_at.result.0.now k 0 ≡ get_or c.args.text.now k 0 = ap (λ (l : List ℕ). get_or l k 0) front ∙ get_or-take c.digit_count.result c.args.text.now k 0 below in
    let P : ℕ → Type 0 = λ x. IsInRange 48 57 x in
    subst P (sym same) (front_digits c.args.text.now c.digit_count.result k c.digit_count.ensures below)

pub returns-in_err-number-clause-none : goal.returns-in_err-number-clause-none
returns-in_err-number-clause-none c = if_none c.from_residual-in_err-number.result _ (λ n more h e.
    let parts = cut c.args.text.now n c.args.mark c.digit_count.result more (omega arith) c.requires.mark c.digit_count.ensures e in
    c.in_err-number.ensures.none n h (c.split_at.ensures.front ∙ parts.0))
