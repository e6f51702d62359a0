-- The effect of an access on one cell: docs/MACHINE.md, "Storage" and "Steps".
use Rattle.std.specs.Prelude.{Bool, true, false, not, if◌then◌else◌, Option, Some, None}
use Rattle.hep_machine.specs.declared.slot.Slot.{Slot}
use Rattle.hep_source.specs.declared.value.Value.{Value}

-- a cell in which no value was stored: it is undefined (X3.9-1978, 2.11 and 17.3) and empty
abbrev pub unset_cell : Slot
unset_cell = record { value = None; full = false }

-- ---- outcomes

-- The outcome of an access. It gives a value and leaves the cell unchanged, or gives a value and changes the cell; or it waits until
-- the cell is full, or empty; or it finds no value in the cell.
pub data Outcome : Type 0 where
  gives : (value : Value) → Outcome
  makes : (value : Value) (slot : Slot) → Outcome
  waits : (full : Bool) → Outcome
  undefined : Outcome

-- ---- states: docs/MACHINE.md, "Storage"

-- FULL and EMPTY
abbrev pub is_full : Slot → Bool
is_full slot = slot.full

abbrev pub is_empty : Slot → Bool
is_empty slot = not slot.full

-- PURGE: the cell becomes empty, and its value stays
abbrev pub purged_cell : Slot → Slot
purged_cell slot = record { value = slot.value; full = false }

-- ---- reading

-- an access that needs the stored value; a cell without a value is undefined (X3.9-1978, 2.11 and 17.3)
abbrev pub with_stored : Option Value → (Value → Outcome) → Outcome
with_stored None more = undefined
with_stored (Some value) more = more value

-- an access that waits until the cell is full
abbrev pub once_full : Slot → Outcome → Outcome
once_full slot outcome = if slot.full then outcome else waits true

-- a variable without $ (X3.9-1978, 2.11), and VALUE: the value that was stored last, full or empty
abbrev pub reading : Slot → Outcome
reading slot = with_stored slot.value gives

-- SETE: the value that was stored last, and the cell becomes empty
abbrev pub setting_empty : Slot → Outcome
setting_empty slot = with_stored slot.value (λ value. makes value (purged_cell slot))

-- reading a variable with $ waits until the cell is full, and empties the cell
abbrev pub reading_asynchronous : Slot → Outcome
reading_asynchronous slot = once_full slot (setting_empty slot)

-- WAITF waits until the cell is full, and leaves it full
abbrev pub waiting_full : Slot → Outcome
waiting_full slot = once_full slot (reading slot)

-- ---- assignment (X3.9-1978, 10.1 and 10.2)

-- an assignment to a variable without $ leaves the cell full or empty as it was
abbrev pub writing : Value → Slot → Outcome
writing value slot = makes value (record { value = Some value; full = slot.full })

-- an assignment to a variable with $ waits until the cell is empty, and fills the cell
abbrev pub writing_asynchronous : Value → Slot → Outcome
writing_asynchronous value slot = if slot.full then waits false else makes value (record { value = Some value; full = true })
