-- The items of a PRINT, entry by entry: X3.9-1978, 12.8.2.
use Rattle.std.specs.Prelude.{List, [], ◌∷◌, Option, Some, None}
use Rattle.hep_machine.specs.Words.{Value, item_of}
use Rattle.hep_machine.specs.declared.record.Item.{Item}
use Rattle.hep_machine.specs.declared.record.Item.TheVariants.{Text}
use Rattle.hep_code.specs.declared.instruction.Instruction.{Instruction}
use Rattle.hep_code.specs.declared.instruction.Instruction.TheVariants.{Show}
use Rattle.hep_code.specs.declared.instruction.Printed.TheVariants.{Operand, Characters}

-- the item of an entry, and the operands after its own
abbrev pub item_ahead : Instruction → List Value → Option (Item × List Value)
item_ahead (Show Operand) (v ∷ vs) = Some (item_of v, vs)
item_ahead (Show (Characters cs)) vs = Some (Text cs, vs)
item_ahead _ vs = None

-- the items of all entries that have one
abbrev pub items_in : List Instruction → List Value → List Item
items_in [] vs = []
items_in (Show Operand ∷ entries) (v ∷ vs) = item_of v ∷ items_in entries vs
items_in (Show (Characters cs) ∷ entries) vs = Text cs ∷ items_in entries vs
items_in _ vs = []
