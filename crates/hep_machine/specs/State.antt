-- The states of the machine: docs/MACHINE.md, "Storage" and "Activations and processes".
use Rattle.std.specs.Prelude.{ℕ, ℤ, Bool, List, Option}
use Rattle.hep_source.specs.Tree.{Tree}
use Rattle.hep_machine.specs.declared.event.Fault.{Fault}
use Rattle.hep_source.specs.declared.name.Name.{Name}
use Rattle.hep_machine.specs.declared.record.Item.{Item}
use Rattle.hep_source.specs.declared.statement.Form.{Form}
use Rattle.hep_machine.specs.declared.slot.Slot.{Slot}
use Rattle.hep_machine.specs.Shapes.{Bounds}

-- ---- storage: "Storage"

-- the location of a storage unit: an element of a variable of an activation, or a position in a common block, both counted from 1
-- (X3.9-1978, 2.13, 5.2.5 and 8.3.2)
pub data Location : Type 0 where
  local : (activation : ℕ) (name : Name) (element : ℕ) → Location
  common : (block : Option Name) (position : ℕ) → Location

-- the content of a storage unit: the value that was stored last, if there is one, and whether the unit is full
abbrev pub Cell : Type 0
Cell = Slot

abbrev pub Store : Type 0
Store = Location → Cell

-- ---- activations: "Activations and processes"

-- the association of a dummy argument: its first storage unit, the number of units that the actual argument has from there on, and its
-- shape, which is fixed when the activation begins
pub record Dummy : Type 0 where
  pub start : Location
  pub rest : ℕ
  pub shape : Bounds

-- an activation: its unit, the activation that made it (none for the main program), and its dummy arguments
pub record Activation : Type 0 where
  pub unit : ℕ
  pub parent : Option ℕ
  pub dummies : List Dummy

-- ---- processes: "Activations and processes"

-- the work left of a statement: its remaining conditions and its form, or the end of the DO at an index (X3.9-1978, 11.10.4 to 11.10.7)
pub data Work : Type 0 where
  doing : (conditions : List Tree) (form : Form) → Work
  ending : (loop : ℕ) → Work

-- an active DO: its index, its iteration count and its increment
pub record Loop : Type 0 where
  pub statement : ℕ
  pub count : ℤ
  pub increment : ℤ

-- a level of a stack: an activation, the index of its current statement, the work left of it, and its active DOs
pub record Level : Type 0 where
  pub activation : ℕ
  pub statement : ℕ
  pub work : Work
  pub loops : List Loop

-- a process: its stack, the top first. The process is alive while the stack isn't empty.
abbrev pub Process : Type 0
Process = List Level

-- ---- the machine: "Activations and processes"

pub record State : Type 0 where
  -- processes and activations by number, counted from 1
  pub processes : List Process
  pub activations : List Activation
  pub store : Store
  pub records : List (List Item)
  pub faults : List Fault
  pub halted : Bool
