use Rattle.std.proofs.Common.{◌++◌, ◌∙◌, List, ℕ, ap, append_assoc, codes}
use Rattle.std.specs.Fmt.{decimal}
use Rattle.hep_event.proofs.line_text.append_one_freed.Goals as goal

pub returns : goal.returns
returns c =
    let old : List ℕ = c.args.text.now.items in
    let front : List ℕ = codes ", frame of " in
    let number : List ℕ = decimal c.args.activation in
    let end : List ℕ = codes " given back" in
    c.in_ok-extend_from_slice-2.ensures.items
    ∙ ap (λ (xs : List ℕ). xs ++ end) (c.in_ok-append_number.ensures ∙ ap (λ (xs : List ℕ). xs ++ number) c.in_ok-extend_from_slice.ensures.items)
    ∙ ap (λ (xs : List ℕ). xs ++ end) (append_assoc old front number)
    ∙ append_assoc old (front ++ number) end
