-- The items of a PRINT, entry by entry: X3.9-1978, 12.8.2.
use Rattle.std.proofs.Common.{◌≡◌, ℕ, zero, suc, List, [], ◌∷◌, take, refl, ap}
use Rattle.hep_machine.specs.Words.{Value, item_of}
use Rattle.hep_machine.specs.declared.record.Item.TheVariants.{Text}
use Rattle.hep_code.specs.declared.instruction.Instruction.{Instruction}
use Rattle.hep_code.specs.declared.instruction.Instruction.TheVariants.{Show}
use Rattle.hep_code.specs.declared.instruction.Printed.TheVariants.{Operand, Characters}
use Rattle.hep_code.specs.Words.{items_from}
use Rattle.hep_step.specs.Items.{items_in}

-- so many of them
pub items_taken : (n : ℕ) (es : List Instruction) (vs : List Value) → items_in (take n es) vs ≡ items_from n es vs
items_taken zero es vs = refl
items_taken (suc n) [] vs = refl
items_taken (suc n) (Show Operand ∷ es) (v ∷ vs) = ap (λ items. item_of v ∷ items) (items_taken n es vs)
items_taken (suc n) (Show Operand ∷ es) [] = refl
items_taken (suc n) (Show (Characters cs) ∷ es) vs = ap (λ items. Text cs ∷ items) (items_taken n es vs)
items_taken (suc n) (_ ∷ es) vs = refl
