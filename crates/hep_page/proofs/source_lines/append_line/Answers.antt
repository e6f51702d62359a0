use Rattle.std.proofs.Common.{◌≡◌, ◌∷◌, ◌++◌, ◌∙◌, [], ℕ, List, ap, append_assoc, arith, length, take}
use Rattle.std.specs.Prelude.{min}
use Rattle.std.proofs.lemmas.List.{take_min}
use Rattle.hep_page.proofs.source_lines.append_line.Goals as goal

pub returns : goal.returns
returns c =
    let text : List ℕ = c.args.text.now.items in
    let line : List ℕ = c.args.line.now in
    let few : c.min.result ≡ min 80 (length line) = omega (arith, c.min.ensures) in
    c.in_ok-extend_from_slice-2.ensures.items
    ∙ ap (λ (xs : List ℕ). xs ++ 10 ∷ []) c.in_ok-extend_from_slice.ensures.items
    ∙ append_assoc text (take c.min.result line) (10 ∷ [])
    ∙ ap (λ (n : ℕ). text ++ (take n line ++ (10 ∷ []))) few
    ∙ ap (λ (xs : List ℕ). text ++ (xs ++ (10 ∷ []))) (take_min 80 line)
