use Rattle.std.proofs.Common.{◌++◌, ◌∙◌, List, ℕ, ap, append_assoc, codes}
use Rattle.hep_state_text.specs.Values.{state_text}
use Rattle.hep_state_text.proofs.lines.append_waiting.Goals as goal

pub returns : goal.returns
returns c =
    let old : List ℕ = c.args.text.now.items in
    let front : List ℕ = codes " WAITING FOR" in
    let state : List ℕ = state_text c.args.full in
    let blank : List ℕ = codes " " in
    let place : List ℕ = c.args.place.now in
    c.in_ok-extend_from_slice-4.ensures.items
    ∙ ap (λ (xs : List ℕ). xs ++ place) (c.in_ok-extend_from_slice-3.ensures.items
    ∙ ap (λ (xs : List ℕ). xs ++ blank) (c.in_ok-extend_from_slice-2.ensures.items
    ∙ (λ i. c.in_ok-extend_from_slice.ensures.items i ++ c.state_text.ensures i)))
    ∙ ap (λ (xs : List ℕ). (xs ++ blank) ++ place) (append_assoc old front state)
    ∙ ap (λ (xs : List ℕ). xs ++ place) (append_assoc old (front ++ state) blank)
    ∙ append_assoc old ((front ++ state) ++ blank) place
