-- The targets of a PURGE have storage units, which a named constant doesn't have: docs/LANGUAGE.md, 3 and 9.
use Rattle.std.specs.Prelude.{◌≡◌, ◌≢◌, ◌<◌, ℕ, List, Some, slice_get}
use Rattle.hep_code.specs.declared.instruction.Argument.TheVariants.{Referred}
use Rattle.hep_code.specs.declared.instruction.Instruction.{Instruction}
use Rattle.hep_code.specs.declared.instruction.Instruction.TheVariants.{Pass}
use Rattle.hep_code.specs.declared.variable.Variable.{Variable}
use Rattle.hep_code.specs.declared.variable.Variable.TheVariants.{Absent}

-- each variable, array or element that the first `count` entries name has storage units
abbrev pub AreEntriesPlaced : ℕ → List Instruction → Type 0
AreEntriesPlaced count entries = (i n : ℕ) (x : Variable) → i < count → slice_get entries i ≡ Some (Pass (Referred x n)) → x ≢ Absent
