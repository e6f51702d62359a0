-- Searches in a list of numbers by place.
use Rattle.std.specs.Prelude.{ℕ, suc, nat_lt, if◌then◌else◌, List, [], ◌∷◌, Option, Some, None}

-- the first place whose number is at least `least`, where the list begins at place n
abbrev pub first_from : ℕ → ℕ → List ℕ → Option ℕ
first_from n least [] = None
first_from n least (x ∷ xs) = if nat_lt x least then first_from (suc n) least xs else Some n

-- the last place whose number isn't 0, or else `before`, where the list begins at place n
abbrev pub last_from : ℕ → List ℕ → Option ℕ → Option ℕ
last_from n [] before = before
last_from n (x ∷ xs) before = last_from (suc n) xs (if nat_lt 0 x then Some n else before)
