-- Texts of lines, and the first bad one: docs/MACHINE.md, "Histories and choices as texts".
use Rattle.std.specs.Prelude.{◌≡◌, ◌≢◌, ◌⊎◌, ℕ, zero, suc, ◌+◌, ◌<◌, ◌≤◌, List, [], ◌++◌, length}
use Rattle.std.specs.List.{AllByRecursion, flat_map}
use Rattle.hep_base.specs.declared.refusal.Refusal.{Refusal as HistFault}
use Rattle.hep_base.specs.declared.refusal.Refusal.TheVariants.{NoMemory, Refused}

-- the greatest number of bytes of a text
abbrev pub most_bytes : ℕ
most_bytes = 150000000

-- a line repeated n times
abbrev pub repeated : ℕ → List ℕ → List ℕ
repeated zero line = []
repeated (suc n) line = line ++ repeated n line

-- the text is the lines of these, each of which is allowed, and isn't too long
pub record AreLines {A : Type 0} (line : A → List ℕ) (Allows : A → Type 0) (text : List ℕ) (xs : List A) : Type 0 where
  pub size : length text ≤ most_bytes
  pub whole : text ≡ flat_map line xs
  pub each : AllByRecursion Allows xs

-- no line is empty or begins another
pub record AreApart {A : Type 0} (line : A → List ℕ) (Allows : A → Type 0) : Type 0 where
  pub filled : (x : A) → 0 < length (line x)
  pub apart : (x y : A) (a b : List ℕ) → Allows x → Allows y → line x ++ a ≡ line y ++ b → (x ≡ y) × (a ≡ b)

-- the lines before line k are those of things that are allowed; there is a line k, and it is that of none
pub record IsFirstBad {A : Type 0} (line : A → List ℕ) (Allows : A → Type 0) (text : List ℕ) (k : ℕ) : Type 0 where
  pub before : List A
  pub rest : List ℕ
  pub place : k ≡ length before + 1
  pub whole : text ≡ flat_map line before ++ rest
  pub each : AllByRecursion Allows before
  pub some : rest ≢ []
  pub none : (x : A) (more : List ℕ) → Allows x → rest ≢ line x ++ more

-- the text is refused at this line: at line 0 where it is too long, else at the first bad one
abbrev pub IsRefusedText : {A : Type 0} → (A → List ℕ) → (A → Type 0) → List ℕ → ℕ → Type 0
IsRefusedText line Allows text k =
    ((k ≡ 0) × (most_bytes < length text)) ⊎ ((length text ≤ most_bytes) × IsFirstBad line Allows text k)

-- the fault has this number and names a line that is refused so; a refusal of memory says nothing about the text
abbrev pub ReportsLine : ℕ → (ℕ → Type 0) → HistFault → Type 0
ReportsLine n IsAt NoMemory = Unit {0}
ReportsLine n IsAt (Refused number line name) = (number ≡ n) × (name ≡ []) × IsAt line
