-- The grammar of lists of parts of a statement (X3.9-1978, 2.10).
use Rattle.std.specs.Prelude.{◌≡◌, ◌⊎◌, ℕ, codes, List, [], ◌∷◌, ◌++◌}

-- The text s begins with these parts, with a comma before each, and r follows.
abbrev pub AreAfter : {A : Type 0} → (A → List ℕ → List ℕ → Type 0) → List A → List ℕ → List ℕ → Type 0
AreAfter P [] s r = s ≡ r
AreAfter P (x ∷ more) s r = (m : List ℕ) × (n : List ℕ) × (s ≡ codes "," ++ m) × P x m n × AreAfter P more n r

-- The text s begins with these parts, one or more, with commas between them, and r follows.
abbrev pub AreListed : {A : Type 0} → (A → List ℕ → List ℕ → Type 0) → List A → List ℕ → List ℕ → Type 0
AreListed P [] s r = ⊥
AreListed P (x ∷ more) s r = (m : List ℕ) × P x s m × AreAfter P more m r

-- The text s begins with these parts, one or more, in parentheses, and r follows.
abbrev pub AreEnclosed : {A : Type 0} → (A → List ℕ → List ℕ → Type 0) → List A → List ℕ → List ℕ → Type 0
AreEnclosed P xs s r = (m : List ℕ) × (s ≡ codes "(" ++ m) × AreListed P xs m (codes ")" ++ r)

-- The text s begins with these parts in parentheses, or with neither parts nor parentheses, and r follows.
abbrev pub AreOptional : {A : Type 0} → (A → List ℕ → List ℕ → Type 0) → List A → List ℕ → List ℕ → Type 0
AreOptional P [] s r = s ≡ r
AreOptional P (x ∷ more) s r = AreEnclosed P (x ∷ more) s r

-- The whole text is these arguments in parentheses. Without arguments the parentheses may be missing
-- (X3.9-1978, 15.6.1 and 15.6.2).
abbrev pub AreArguments : {A : Type 0} → (A → List ℕ → List ℕ → Type 0) → List A → List ℕ → Type 0
AreArguments P [] s = (s ≡ []) ⊎ (s ≡ codes "()")
AreArguments P (x ∷ more) s = AreEnclosed P (x ∷ more) s []

-- The whole text is these dummy arguments in parentheses. Without arguments the parentheses must be there too (X3.9-1978, 15.5.1).
abbrev pub AreParenthesized : {A : Type 0} → (A → List ℕ → List ℕ → Type 0) → List A → List ℕ → Type 0
AreParenthesized P [] s = s ≡ codes "()"
AreParenthesized P (x ∷ more) s = AreEnclosed P (x ∷ more) s []

-- The text s begins with an optional comma, and r follows.
abbrev pub IsOptionalComma : List ℕ → List ℕ → Type 0
IsOptionalComma s r = (s ≡ r) ⊎ (s ≡ codes "," ++ r)
