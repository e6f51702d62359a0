-- Violations but the first one, each once.
use Rattle.std.proofs.Common.{◌≡◌, ◌&&◌, not, true, false, List, [], ◌∷◌, ◌++◌, append_assoc, ap, refl, sym, ◌∙◌}
use Rattle.hep_conditions.specs.declared.violation.Violation.{Violation}
use Rattle.hep_check.specs.Diagnostics.{is_same, others}

pub kept : (first last v : Violation) (xs ys found next whole : List Violation) → (not (is_same first v) && not (is_same last v)) ≡ true
    → xs ≡ v ∷ ys
    → found ++ others first last xs ≡ whole → next ≡ found ++ (v ∷ []) → next ++ others first v ys ≡ whole
kept first last v xs ys found next whole is d h n =
    let here : others first last (v ∷ ys) ≡ v ∷ others first v ys = rw is refl in
    ap (λ ws. ws ++ others first v ys) n
    ∙ (append_assoc found (v ∷ []) (others first v ys)
    ∙ (ap (λ ws. found ++ ws) (sym here) ∙ (ap (λ zs. found ++ others first last zs) (sym d) ∙ h)))

pub passed : (first last v : Violation) (xs ys found whole : List Violation) → (not (is_same first v) && not (is_same last v)) ≡ false
    → xs ≡ v ∷ ys
    → found ++ others first last xs ≡ whole → found ++ others first last ys ≡ whole
passed first last v xs ys found whole is d h =
    let here : others first last (v ∷ ys) ≡ others first last ys = rw is refl in
    ap (λ ws. found ++ ws) (sym here) ∙ (ap (λ zs. found ++ others first last zs) (sym d) ∙ h)
