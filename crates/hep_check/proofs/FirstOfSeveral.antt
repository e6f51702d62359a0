-- The first violation of several lists is the first of those that the lists have first.
use Rattle.std.proofs.Common.{◌≡◌, List, [], ◌∷◌, ◌++◌, map, Option, ap, refl, sym, ◌∙◌}
use Rattle.hep_conditions.specs.declared.violation.Violation.{Violation}
use Rattle.hep_conditions.specs.Words.{first_of_two, Violations, first_of}
use Rattle.hep_conditions.proofs.First.{first_of-append, first_of_two-none, first_of_two-assoc}
use Rattle.hep_check.specs.FirstFound.{first_found}

-- the last list
pub last : (v : Option Violation) (vs : Violations) → v ≡ first_of vs → first_found (v ∷ []) ≡ first_of vs
last v vs h = first_of_two-none v ∙ h

-- one list before others
pub before : (v : Option Violation) (vs rest : Violations) (found : List (Option Violation)) → v ≡ first_of vs → first_found found ≡ first_of rest
    → first_found (v ∷ found) ≡ first_of (vs ++ rest)
before v vs rest found h k =
    ap (λ o. first_of_two o (first_found found)) h ∙ (ap (first_of_two (first_of vs)) k ∙ sym (first_of-append vs rest))

-- a turn of the loop that keeps the first so far
pub turn : (best v : Option Violation) (next whole : Option Violation) (xs ys : List (Option Violation))
    → first_of_two best (first_found xs) ≡ whole → next ≡ first_of_two best v → xs ≡ v ∷ ys → first_of_two next (first_found ys) ≡ whole
turn best v next whole xs ys h n d =
    ap (λ o. first_of_two o (first_found ys)) n
    ∙ (first_of_two-assoc best v (first_found ys) ∙ (ap (λ zs. first_of_two best (first_found zs)) (sym d) ∙ h))

-- one list, and those behind it
abbrev pub joined : Violations → List Violations → Violations
joined l [] = l
joined l (m ∷ ms) = l ++ joined m ms

-- several lists, of which each gives its first violation
pub gathered : (l : Violations) (ls : List Violations) → first_found (map first_of (l ∷ ls)) ≡ first_of (joined l ls)
gathered l [] = last (first_of l) l refl
gathered l (m ∷ ms) = before (first_of l) l (joined m ms) (map first_of (m ∷ ms)) refl (gathered m ms)

-- the four parts of a program's conditions
pub four : (a b c d : Option Violation) (la lb lc ld : Violations) → a ≡ first_of la → b ≡ first_of lb → c ≡ first_of lc → d ≡ first_of ld
    → first_found (a ∷ b ∷ c ∷ d ∷ []) ≡ first_of (la ++ (lb ++ (lc ++ ld)))
four a b c d la lb lc ld p q r s =
    before a la (lb ++ (lc ++ ld)) (b ∷ c ∷ d ∷ []) p (before b lb (lc ++ ld) (c ∷ d ∷ []) q (before c lc ld (d ∷ []) r (last d ld s)))
