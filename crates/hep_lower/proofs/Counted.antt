-- What a refusal says of the parts of a program.
use Rattle.std.proofs.Common.{◌≡◌, ◌⊎◌, inl, inr, ℕ, ◌<◌, ◌≤◌, ◌*◌, arith, length, Some, Result, Ok, Err, IfErr}
use Rattle.hep_base.specs.declared.refusal.Refusal.{Refusal as LowerFault}
use Rattle.hep_base.specs.declared.refusal.Refusal.TheVariants.{NoMemory, Refused}
use Rattle.hep_machine.specs.Words.{Units}
use Rattle.hep_lower.specs.Counts.{IsByCount, IsLongLine, IsManyParts}
use Rattle.hep_lower.specs.PartCounts.{IsOfLongStatement, parts_of}
use Rattle.hep_lower.specs.Refusals.{IsFirstDeep, IsUnlowered, Refuses, instructions_in}

other-number : (n a b : ℕ) → n ≡ a → n ≡ b → a < b ⊎ b < a → ⊥
other-number n a b is isn't (inl less) = absurd (omega (arith, is, isn't, less))
other-number n a b is isn't (inr less) = absurd (omega (arith, is, isn't, less))

module _ (program : Units)
    (few : instructions_in program (length program) ≤ 2 * parts_of program)
    (long : (line : ℕ) → IsFirstDeep program (length program) (Some line) → IsOfLongStatement program line) where
  many-parts : (number line : ℕ) → IsUnlowered program number line → IsManyParts program number
  many-parts number line (inl (is, at, none)) same = absurd (other-number number 204 401 is same (inl (omega arith)))
  many-parts number line (inr (inl (is, none, main, inl cells))) same = inl cells
  many-parts number line (inr (inl (is, none, main, inr code))) same = inr (omega (arith, few, code))
  many-parts number line (inr (inr (is, main, within, deep))) same = absurd (other-number number 402 401 is same (inr (omega arith)))

  long-line : (number line : ℕ) → IsUnlowered program number line → IsLongLine program number line
  long-line number line (inl (is, at, none)) same = absurd (other-number number 204 402 is same (inl (omega arith)))
  long-line number line (inr (inl (is, at, main, beyond))) same = absurd (other-number number 401 402 is same (inl (omega arith)))
  long-line number line (inr (inr (is, main, within, deep))) same = long line deep

  counted : (fault : LowerFault) → Refuses program fault → IsByCount program fault
  counted NoMemory refused = tt
  counted (Refused number line name) refused = (many-parts number line refused.0, long-line number line refused.0)

  pub counted-result : {T : Type 0} (result : Result T LowerFault) → IfErr result (Refuses program) → IfErr result (IsByCount program)
  counted-result (Ok image) refused = tt
  counted-result (Err fault) refused = counted fault refused
