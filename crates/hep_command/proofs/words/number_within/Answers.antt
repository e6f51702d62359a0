use Rattle.std.proofs.Common.{◌∙◌, ◌≤◌, ℕ, ap, subst, sym, rules, Some}
use Rattle.std.specs.Str.Parse.{digits_value, without_leading_plus}
use Rattle.hep_command.proofs.NumberLemmas.{no_number, number_in_range}
use Rattle.hep_command.proofs.words.number_within.Goals as goal

pub returns-in-Ok : goal.returns-in-Ok
returns-in-Ok c =
    let read = c.in-Ok.ensures.value.0 in
    let least = c.args.least in
    let most = c.args.most in
    let low : least ≤ digits_value 10 (without_leading_plus c.args.text.now) = subst (λ (n : ℕ). least ≤ n) read.1 (search rules) in
    let high : digits_value 10 (without_leading_plus c.args.text.now) ≤ most = subst (λ (n : ℕ). n ≤ most) read.1 (search rules) in
    ap Some read.1 ∙ sym (number_in_range least most c.args.text.now read.0.0 low high)

pub returns-in_default-3 : goal.returns-in_default-3
returns-in_default-3 c = sym (no_number c.args.least c.args.most c.args.text.now (search rules) c.in_default.ensures.value.0)
