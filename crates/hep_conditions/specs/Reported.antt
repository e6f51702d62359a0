-- The violation that is reported, computed from the parts of a list: docs/LANGUAGE.md, 10.
use Rattle.std.specs.Prelude.{ℕ, Bool, true, false, nat_lt, if◌then◌else◌, List, [], ◌∷◌, Option, Some, None}
use Rattle.hep_conditions.specs.declared.violation.Violation.{Violation}
use Rattle.hep_conditions.specs.Violations.{at_line, earlier}

-- the first of two violations, each of which may be missing; the left one where their positions are the same
abbrev pub first_of_two : Option Violation → Option Violation → Option Violation
first_of_two None w = w
first_of_two (Some v) w = Some (earlier v w)

-- ---- violations with one number and without a name, which differ only in their lines

-- the violation of a number at a line, if there is a line
abbrev pub reported : ℕ → Option ℕ → Option Violation
reported number None = None
reported number (Some line) = Some (at_line number line)

-- the lesser of two lines, each of which may be missing
abbrev pub least_line : Option ℕ → Option ℕ → Option ℕ
least_line None l = l
least_line (Some k) None = Some k
least_line (Some k) (Some l) = Some (if nat_lt l k then l else k)

-- this line where the test is true, and else none
abbrev pub line_when : Bool → ℕ → Option ℕ
line_when true line = Some line
line_when false line = None

-- the least of the lines that the elements give
abbrev pub least_line_of : {A : Type 0} → (A → Option ℕ) → List A → Option ℕ
least_line_of line [] = None
least_line_of line (x ∷ xs) = least_line (line x) (least_line_of line xs)

-- the least line of the elements that pass a test
abbrev pub least_line_where : {A : Type 0} → (A → Bool) → (A → ℕ) → List A → Option ℕ
least_line_where test line [] = None
least_line_where test line (x ∷ xs) = least_line (line_when (test x) (line x)) (least_line_where test line xs)
