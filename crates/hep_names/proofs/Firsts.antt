-- The first of violations, as loops keep it.
use Rattle.std.proofs.Common.{◌≡◌, Option, List, ◌∷◌, ◌++◌, append_assoc, ap, sym, ◌∙◌}
use Rattle.std.specs.List.{flat_map}
use Rattle.hep_conditions.specs.declared.violation.Violation.{Violation}
use Rattle.hep_conditions.specs.Words.{Violations, first_of, first_of_two}
use Rattle.hep_conditions.proofs.First.{first_of-next, first_of-append}

-- an iteration of a loop over elements, of which this one is next
pub turn : {A : Type 0} (f : A → Violations) (best found next whole : Option Violation) (x : A) (xs ys : List A)
    → first_of_two best (first_of (flat_map f xs)) ≡ whole → next ≡ first_of_two best found → found ≡ first_of (f x) → xs ≡ x ∷ ys
    → first_of_two next (first_of (flat_map f ys)) ≡ whole
turn f best found next whole x xs ys h n e d =
    ap (λ o. first_of_two o (first_of (flat_map f ys))) (n ∙ ap (first_of_two best) e)
    ∙ (first_of-next f best x ys ∙ (ap (λ zs. first_of_two best (first_of (flat_map f zs))) (sym d) ∙ h))

-- three lists, one after the other
pub three : (us vs ws : Violations) (x y z : Option Violation) → x ≡ first_of us → y ≡ first_of vs → z ≡ first_of ws → first_of_two x (first_of_two y z) ≡ first_of (us ++ (vs ++ ws))
three us vs ws x y z p q r =
    ap (λ o. first_of_two o (first_of_two y z)) p
    ∙ (ap (λ o. first_of_two (first_of us) (first_of_two o z)) q
    ∙ (ap (λ o. first_of_two (first_of us) (first_of_two (first_of vs) o)) r
    ∙ (ap (first_of_two (first_of us)) (sym (first_of-append vs ws)) ∙ sym (first_of-append us (vs ++ ws)))))

-- a turn of a loop that puts a list together
pub grow : {A B : Type 0} (f : A → List B) (found next whole : List B) (x : A) (xs ys : List A) → found ++ flat_map f xs ≡ whole → next ≡ found ++ f x → xs ≡ x ∷ ys
    → next ++ flat_map f ys ≡ whole
grow f found next whole x xs ys h n d =
    ap (λ bs. bs ++ flat_map f ys) n ∙ (append_assoc found (f x) (flat_map f ys) ∙ (ap (λ zs. found ++ flat_map f zs) (sym d) ∙ h))
