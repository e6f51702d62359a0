-- The words for a cell: docs/RUNS.md, "What everything holds".
use Rattle.std.specs.Prelude.{ℕ, Bool, true, false, ◌&&◌, if◌then◌else◌, List, [], ◌++◌, codes, Option, Some, None}
use Rattle.std.specs.Fmt.{signed_decimal}
use Rattle.std.specs.Ordering.{int_eq}
use Rattle.hep_machine.specs.Words.{Value, Int, Truth, same_logical}
use Rattle.hep_machine.specs.declared.slot.Slot.{Slot}

-- the value as PRINT writes it, and a word where there is none
abbrev pub value_text : Option Value → List ℕ
value_text None = codes "UNDEFINED"
value_text (Some (Int z)) = signed_decimal z
value_text (Some (Truth true)) = codes "T"
value_text (Some (Truth false)) = codes "F"

abbrev pub state_text : Bool → List ℕ
state_text true = codes " FULL"
state_text false = codes " EMPTY"

-- and whether it is full, where the variable is asynchronous
abbrev pub slot_text : Bool → Slot → List ℕ
slot_text asynchronous s = value_text s.value ++ (if asynchronous then state_text s.full else [])

-- ---- equal cells

abbrev pub same_value : Option Value → Option Value → Bool
same_value None None = true
same_value (Some (Int a)) (Some (Int b)) = int_eq a b
same_value (Some (Truth a)) (Some (Truth b)) = same_logical a b
same_value _ _ = false

-- and both full or both empty
abbrev pub same_slot : Slot → Slot → Bool
same_slot a b = same_value a.value b.value && same_logical a.full b.full
