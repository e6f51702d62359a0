-- What references in a row point at.
use Rattle.std.proofs.Common.{◌≡◌, List, [], ◌∷◌, ◌++◌, refl, ap}
use Rattle.std.specs.Borrow.{Bor}
use Rattle.hep_names.specs.Statements.{rest_after}

pub after-append : {A : Type 0} (rs ss : List (Bor A)) → rest_after (rs ++ ss) ≡ rest_after rs ++ rest_after ss
after-append [] ss = refl
after-append (r ∷ rs) ss = ap (λ xs. r.now ∷ xs) (after-append rs ss)

pub after_push : {A : Type 0} (rs : List (Bor A)) (r : Bor A) → rest_after (rs ++ r ∷ []) ≡ rest_after rs ++ r.now ∷ []
after_push rs r = after-append rs (r ∷ [])
