-- Violations of conditions, and which one is reported: docs/LANGUAGE.md, 10.
use Rattle.std.specs.Prelude.{ℕ, Bool, ◌&&◌, ◌||◌, nat_eq, nat_lt, if◌then◌else◌, List, [], ◌∷◌, ◌++◌, Option, Some, None}
use Rattle.std.specs.List.{list_any}
use Rattle.hep_machine.specs.Words.{Occurrence}
use Rattle.hep_conditions.specs.declared.violation.Violation.{Violation}

abbrev pub Violations : Type 0
Violations = List Violation

-- a violation by a statement, without a name
abbrev pub at_line : ℕ → ℕ → Violation
at_line number line = record { line = line; number = number; name = None; position = 0 }

-- a violation by a name in a statement
abbrev pub at_occurrence : ℕ → ℕ → Occurrence → Violation
at_occurrence number line p = record { line = line; number = number; name = Some p.name; position = p.position }

-- this violation where the test is true, and else none
abbrev pub when : Bool → Violation → Violations
when b v = if b then v ∷ [] else []

-- a violation at the line of each item that agrees with an earlier one, or with one of `before`
abbrev pub repeated_after : {A : Type 0} → ℕ → (A → A → Bool) → List A → List (A × ℕ) → Violations
repeated_after number agrees before [] = []
repeated_after number agrees before (u ∷ us) =
    when (list_any (agrees u.0) before) (at_line number u.1) ++ repeated_after number agrees (u.0 ∷ before) us

-- a violation at the line of each item that agrees with an earlier one
abbrev pub repeated_by : {A : Type 0} → ℕ → (A → A → Bool) → List (A × ℕ) → Violations
repeated_by number agrees uses = repeated_after number agrees [] uses

-- ---- the order of violations: by line, then by number, then by the position of the name

abbrev pub precedes : Violation → Violation → Bool
precedes a b =
    nat_lt a.line b.line
    || (nat_eq a.line b.line && (nat_lt a.number b.number || (nat_eq a.number b.number && nat_lt a.position b.position)))

abbrev pub earlier : Violation → Option Violation → Violation
earlier v None = v
earlier v (Some w) = if precedes w v then w else v

abbrev pub first_of : Violations → Option Violation
first_of [] = None
first_of (v ∷ vs) = Some (earlier v (first_of vs))
