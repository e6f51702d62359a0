-- The grammar of statement labels: which texts read as which numbers.
use Rattle.std.specs.Prelude.{◌≡◌, ◌≢◌, ℕ, ◌≤◌, List, ◌++◌, length}
use Rattle.hep_expression.specs.Characters.{IsDigits, number_of_digits}

-- the greatest number of digits of a label (X3.9-1978, 3.4) and of STOP (11.12)
abbrev pub most_digits : ℕ
most_digits = 5

-- one to five digits, not all of them 0 (X3.9-1978, 3.4)
abbrev pub ReadsLabel : ℕ → List ℕ → List ℕ → Type 0
ReadsLabel x s r = (d : List ℕ) × IsDigits d × (length d ≤ most_digits) × (s ≡ d ++ r) × (x ≡ number_of_digits d) × (x ≢ 0)
