-- What is reported of a source.
use Rattle.std.specs.Prelude.{◌≡◌, ℕ, List, [], Option, Some, None, Result, Ok, Err}
use Prim.Native.String.{String}
use Rattle.hep_machine.specs.Words.{Name, spelling, Units}
use Rattle.hep_worked.proofs.Sources.{units_of}
use Rattle.hep_conditions.specs.declared.violation.Violation.{Violation}
use Rattle.hep_conditions.specs.Words.{first_violation}

-- what is reported of a source
pub data Reported : Type 0 where
  accepted : Reported
  -- the number, the line and the name, if any
  refused : (number line : ℕ) (name : List ℕ) → Reported
  unread : Reported

unfoldable pub spelled : Option Name → List ℕ
spelled None = []
spelled (Some x) = spelling x

unfoldable pub reported_of : Option Violation → Reported
reported_of None = accepted
reported_of (Some v) = refused v.number v.line (spelled v.name)

unfoldable pub reported_by : {E : Type 0} → Result Units E → Reported
reported_by (Ok program) = reported_of (first_violation program)
reported_by (Err e) = unread

unfoldable pub reported : List String → Reported
reported lines = reported_by (units_of lines)

unfoldable pub accepts : List String → Type 0
accepts lines = reported lines ≡ accepted

unfoldable pub refuses : ℕ → ℕ → List String → Type 0
refuses number line lines = reported lines ≡ refused number line []

unfoldable pub names : ℕ → ℕ → List ℕ → List String → Type 0
names number line name lines = reported lines ≡ refused number line name
