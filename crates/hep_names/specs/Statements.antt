-- Lists of references.
use Rattle.std.specs.Prelude.{List, [], ◌∷◌}
use Rattle.std.specs.Borrow.{Bor}

-- the values to which references point
abbrev pub rest_after : {A : Type 0} → List (Bor A) → List A
rest_after [] = []
rest_after (r ∷ rs) = r.now ∷ rest_after rs
