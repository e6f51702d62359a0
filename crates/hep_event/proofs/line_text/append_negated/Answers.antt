use Rattle.std.proofs.Common.{◌++◌, ◌∙◌, List, ℕ, ap, append_assoc, codes}
use Rattle.hep_event.specs.LineTexts.{given_text}
use Rattle.hep_event.specs.ValueTexts.{value_text}
use Rattle.hep_event.proofs.line_text.append_negated.Goals as goal

pub returns : goal.returns
returns c =
    let old : List ℕ = c.args.text.now.items in
    let front : List ℕ = codes "negate .NOT. " in
    let operand : List ℕ = value_text c.args.operand in
    let given : List ℕ = given_text c.args.value in
    c.in_ok-append_given.ensures
    ∙ ap (λ (xs : List ℕ). xs ++ given) (c.in_ok-append_value.ensures ∙ ap (λ (xs : List ℕ). xs ++ operand) c.in_ok-extend_from_slice.ensures.items)
    ∙ ap (λ (xs : List ℕ). xs ++ given) (append_assoc old front operand)
    ∙ append_assoc old (front ++ operand) given
