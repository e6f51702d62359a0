-- What one more element of a list gives, behind what those before it gave.
use Rattle.std.proofs.Common.{◌≡◌, ℕ, ◌+◌, ◌<◌, List, ◌++◌, drop, get_or, length, append_assoc, sym, ap, ◌∙◌}
use Rattle.std.proofs.lemmas.List.{at_drop_more}
use Rattle.std.specs.List.{flat_map}

pub appended : {A B : Type 0} (f : A → List B) (xs : List A) (i : ℕ) (d : A) (old new all : List B) → i < length xs
    → new ≡ old ++ f (get_or xs i d) → old ++ flat_map f (drop i xs) ≡ all → new ++ flat_map f (drop (i + 1) xs) ≡ all
appended {B = B} f xs i d old new all h made so_far =
    ap (λ (us : List B). us ++ flat_map f (drop (i + 1) xs)) made
    ∙ (append_assoc old (f (get_or xs i d)) (flat_map f (drop (i + 1) xs))
    ∙ (sym (at_drop_more (λ ys. old ++ flat_map f ys) xs i d h) ∙ so_far))

-- the same of an element by its name
pub appended_item : {A B : Type 0} (f : A → List B) (xs : List A) (i : ℕ) (x : A) (old new all : List B) → i < length xs → x ≡ get_or xs i x
    → new ≡ old ++ f x → old ++ flat_map f (drop i xs) ≡ all → new ++ flat_map f (drop (i + 1) xs) ≡ all
appended_item f xs i x old new all h is made so_far =
    appended f xs i x old new all h (made ∙ ap (λ y. old ++ f y) is) so_far
