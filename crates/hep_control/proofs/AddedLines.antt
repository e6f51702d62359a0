-- A turn of a loop that adds one thing for each element.
use Rattle.std.proofs.Common.{◌≡◌, List, [], ◌∷◌, ◌++◌, map, append_assoc, ap, sym, ◌∙◌}

pub pushed : {A B : Type 0} (f : A → B) (found next whole : List B) (x : A) (xs ys : List A) → found ++ map f xs ≡ whole → next ≡ found ++ (f x ∷ []) → xs ≡ x ∷ ys
    → next ++ map f ys ≡ whole
pushed f found next whole x xs ys h n d =
    ap (λ bs. bs ++ map f ys) n ∙ (append_assoc found (f x ∷ []) (map f ys) ∙ (ap (λ zs. found ++ map f zs) (sym d) ∙ h))
