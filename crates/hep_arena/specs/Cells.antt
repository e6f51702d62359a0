-- The meaning of the fields of a cell.
use Rattle.std.specs.Prelude.{◌≡◌, ℤ, pos, true, false, Option, Some, None, refl}
use Rattle.std.proofs.Common.{sym}
use Rattle.hep_machine.specs.Words.{Value, Int, Truth}
use Rattle.hep_machine.specs.declared.slot.Slot.{Slot}
use Rattle.hep_arena.specs.declared.cell.Holding.{Holding}
use Rattle.hep_arena.specs.declared.cell.Holding.TheVariants.{Nothing, Integer, False, True}
use Rattle.hep_arena.specs.declared.cell.Cell.TheInside.{Inside}

-- the value in a cell, if there is one
abbrev pub value_held : Holding → ℤ → Option Value
value_held Nothing z = None
value_held Integer z = Some (Int z)
value_held False z = Some (Truth false)
value_held True z = Some (Truth true)

abbrev pub slot_of : Inside → Slot
slot_of a = record { value = value_held a.holding a.number; full = a.full }

-- The number is 0 where the cell holds no integer.
abbrev pub IsHeld : Holding → ℤ → Type 0
IsHeld Integer z = Unit {0}
IsHeld _ z = z ≡ pos 0

abbrev pub IsCell : Inside → Type 0
IsCell a = IsHeld a.holding a.number

-- ---- the fields by the value

abbrev pub holding_of : Option Value → Holding
holding_of None = Nothing
holding_of (Some (Int z)) = Integer
holding_of (Some (Truth false)) = False
holding_of (Some (Truth true)) = True

abbrev pub number_of : Option Value → ℤ
number_of (Some (Int z)) = z
number_of _ = pos 0

abbrev pub cell_of : Slot → Inside
cell_of s = record { number = number_of s.value; holding = holding_of s.value; full = s.full }

held-again : (h : Holding) (z : ℤ) → IsHeld h z → (number_of (value_held h z) ≡ z) × (holding_of (value_held h z) ≡ h)
held-again Nothing z none = (sym none, refl)
held-again Integer z none = (refl, refl)
held-again False z none = (sym none, refl)
held-again True z none = (sym none, refl)

pub same-again : (a : Inside) → IsCell a → cell_of (slot_of a) ≡ a
same-again a is = let again = held-again a.holding a.number is in λ i. record { number = again.0 i; holding = again.1 i; full = a.full }
