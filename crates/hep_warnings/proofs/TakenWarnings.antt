-- Warnings of some lines from the left.
use Rattle.std.proofs.Common.{◌≡◌, ℕ, zero, suc, ◌+◌, ◌<◌, List, [], ◌∷◌, ◌++◌, append-nil, append_assoc, length, take, refl, sym, ap, ◌∙◌, arith}
use Rattle.std.specs.Prelude.{◌-◌}
use Rattle.hep_text.specs.Line.{lines}
use Rattle.hep_warnings.specs.PastColumn72.{line_warnings, warnings_from}
use Rattle.hep_warnings.specs.Lines.{Warnings}

-- the first of so many lines, and the others
one_more : (number left : ℕ) (line : List ℕ) (ls : List (List ℕ)) → 0 < left
    → warnings_from number (take left (line ∷ ls)) ≡ line_warnings number line ++ warnings_from (number + 1) (take (left - 1) ls)
one_more number zero line ls h = absurd (omega arith)
one_more number (suc left) line ls h =
    let e : left ≡ suc left - 1 = omega arith in
    ap (λ k. line_warnings number line ++ warnings_from (number + 1) (take k ls)) e

-- behind the last line there are none
none_left : (number left : ℕ) → warnings_from number (take left []) ≡ []
none_left number zero = refl
none_left number (suc left) = refl

-- behind those of the lines so far stand those of one more line
pub next : (number left : ℕ) (line : List ℕ) (ls rest : List (List ℕ)) (old new all : Warnings) → 0 < left → rest ≡ line ∷ ls
    → new ≡ old ++ line_warnings number line → old ++ warnings_from number (take left rest) ≡ all
    → new ++ warnings_from (number + 1) (take (left - 1) ls) ≡ all
next number left line ls rest old new all h cut made so_far =
    ap (λ (us : Warnings). us ++ warnings_from (number + 1) (take (left - 1) ls)) made
    ∙ (append_assoc old (line_warnings number line) (warnings_from (number + 1) (take (left - 1) ls))
    ∙ (ap (λ (us : Warnings). old ++ us) (sym (one_more number left line ls h))
    ∙ (ap (λ (ys : List (List ℕ)). old ++ warnings_from number (take left ys)) (sym cut) ∙ so_far)))

-- no more lines are to be read
pub over_none : (number left : ℕ) (ls : List (List ℕ)) (found all : Warnings) → left ≡ 0
    → found ++ warnings_from number (take left ls) ≡ all → found ≡ all
over_none number zero ls found all h so_far = sym (append-nil found) ∙ so_far
over_none number (suc left) ls found all h so_far = absurd (omega (arith, h))

-- the text is over
pub over_empty : (number left : ℕ) (rest : List ℕ) (found all : Warnings) → length rest ≡ 0
    → found ++ warnings_from number (take left (lines rest)) ≡ all → found ≡ all
over_empty number left [] found all h so_far = sym (append-nil found) ∙ (ap (λ (us : Warnings). found ++ us) (sym (none_left number left)) ∙ so_far)
over_empty number left (c ∷ rest) found all h so_far = absurd (omega (arith, h))
