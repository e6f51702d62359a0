-- What entries pass, one after the other, and what is made of it: X3.9-1978, 15.9.2 and 15.9.3.
use Rattle.std.proofs.Common.{◌≡◌, ℕ, zero, suc, List, [], ◌∷◌, ◌++◌, take, drop, Result, Ok, Err, refl, ap}
use Rattle.hep_machine.specs.Words.{Value}
use Rattle.hep_machine.specs.declared.event.Kind.{Kind}
use Rattle.hep_code.specs.declared.instruction.Argument.TheVariants.{Evaluated, Referred}
use Rattle.hep_code.specs.declared.instruction.Instruction.{Instruction}
use Rattle.hep_code.specs.declared.instruction.Instruction.TheVariants.{Pass}
use Rattle.hep_code.specs.Words.{by_value, by_reference, passed_from}
use Rattle.hep_step.specs.PassedEntries.{passed_in}

-- ---- what is passed

-- so many entries
pub passed_taken : (n : ℕ) (es : List Instruction) (vs : List Value) → passed_in (take n es) vs ≡ passed_from n es vs
passed_taken zero es vs = refl
passed_taken (suc n) [] vs = refl
passed_taken (suc n) (Pass Evaluated ∷ es) (v ∷ vs) = ap (λ ps. by_value v ∷ ps) (passed_taken n es vs)
passed_taken (suc n) (Pass Evaluated ∷ es) [] = refl
passed_taken (suc n) (Pass (Referred x m) ∷ es) vs = ap (λ ps. by_reference x (take m vs) ∷ ps) (passed_taken n es (drop m vs))
passed_taken (suc n) (_ ∷ es) vs = refl

-- ---- what is made of it, behind what was made before

module _ {T : Type 0} where
  abbrev pub made_behind : List T → Result (List T) Kind → Result (List T) Kind
  made_behind ts (Err k) = Err k
  made_behind ts (Ok us) = Ok (ts ++ us)
