-- What a machine keeps as words and as bytes, by which machines are compared: docs/MACHINE.md, "Layout".
use Rattle.std.specs.Prelude.{◌≡◌, ℕ, zero, suc, ◌+◌, ◌/◌, ◌%◌, nat_lt, Bool, if◌then◌else◌, List, [], ◌∷◌, ◌++◌, length, Option, Some}
use Rattle.std.specs.Prelude.{None, int_lt, pos, unsigned_abs}
use Rattle.std.specs.List.{flat_map}
use Rattle.hep_source.specs.declared.value.Value.{Value}
use Rattle.hep_source.specs.declared.value.Value.TheVariants.{Int, Truth}
use Rattle.hep_machine.specs.Words.{Units, common_cells}
use Rattle.hep_machine.specs.declared.event.Fault.{Fault}
use Rattle.hep_machine.specs.declared.event.Kind.{Kind}
use Rattle.hep_machine.specs.declared.event.Kind.TheVariants as kind
use Rattle.hep_machine.specs.declared.record.Item.{Item}
use Rattle.hep_machine.specs.declared.record.Item.TheVariants as item
use Rattle.hep_machine.specs.declared.slot.Slot.{Slot}
use Rattle.hep_state.specs.Words.{Snapshot}
use Rattle.hep_state_text.specs.NodeKeys.{AreHeldKeys}
use Rattle.hep_explore.specs.Contents.{Contents, HeldFrame, HeldLevel, HeldStack, contents_of}

-- ---- values

-- the sign of an integer, or which logical value it is
abbrev pub value_kind : Value → ℕ
value_kind (Int n) = if int_lt n (pos 0) then 2 else 1
value_kind (Truth b) = if b then 4 else 3

-- how far an integer is from 0
abbrev pub value_number : Value → ℕ
value_number (Int n) = unsigned_abs n
value_number (Truth b) = 0

abbrev pub value_words : Value → List ℕ
value_words v = value_kind v ∷ value_number v ∷ []

abbrev pub held_kind : Option Value → ℕ
held_kind None = 0
held_kind (Some v) = value_kind v

abbrev pub held_number : Option Value → ℕ
held_number None = 0
held_number (Some v) = value_number v

-- the kinds of full cells come after those of empty ones
abbrev pub slot_words : Slot → List ℕ
slot_words s = (if s.full then held_kind s.value + 5 else held_kind s.value) ∷ held_number s.value ∷ []

-- ---- parts

-- a list with its length before it
abbrev pub counted : {A : Type 0} → (A → List ℕ) → List A → List ℕ
counted words xs = length xs ∷ flat_map words xs

abbrev pub frame_words : HeldFrame → List ℕ
frame_words f = f.activation ∷ f.unit ∷ f.first ∷ f.parent ∷ counted slot_words f.cells

abbrev pub level_words : HeldLevel → List ℕ
level_words l = l.activation ∷ l.unit ∷ l.kept ∷ l.index ∷ []

abbrev pub stack_words : HeldStack → List ℕ
stack_words k = counted level_words k.levels ++ counted value_words k.operands ++ counted value_words k.pending

-- a text is told from a value by its kind
abbrev pub item_words : Item → List ℕ
item_words (item.Int n) = value_words (Int n)
item_words (item.Truth b) = value_words (Truth b)
item_words (item.Text cs) = 5 ∷ counted (λ c. c ∷ []) cs

abbrev pub kind_word : Kind → ℕ
kind_word kind.Overflow = 0
kind_word kind.Divide = 1
kind_word kind.Range = 2
kind_word kind.Undefined = 3
kind_word kind.Shape = 4
kind_word kind.Step = 5

abbrev pub fault_words : Fault → List ℕ
fault_words f = f.process ∷ f.unit ∷ f.line ∷ kind_word f.kind ∷ []

-- ---- machines

abbrev pub halted_word : Bool → ℕ
halted_word halted = if halted then 1 else 0

-- the contents of a machine as words
abbrev pub words_of : Contents → List ℕ
words_of c =
    c.activations ∷ halted_word c.halted ∷ (counted slot_words c.common ++ counted frame_words c.frames ++ counted stack_words c.processes
    ++ counted (counted item_words) c.records ++ counted fault_words c.faults)

-- ---- bytes

-- a number in groups of seven bits, the lowest one first, so many groups at most and one more; 128 is added to each but the last one
abbrev pub groups_of : ℕ → ℕ → List ℕ
groups_of zero n = n ∷ []
groups_of (suc more) n = if nat_lt n 128 then n ∷ [] else (n % 128 + 128) ∷ groups_of more (n / 128)

-- a word as bytes: most words are small, and take one
abbrev pub word_bytes : ℕ → List ℕ
word_bytes n = groups_of n n

abbrev pub bytes_of : List ℕ → List ℕ
bytes_of words = flat_map word_bytes words

-- a machine of a program keeps what these bytes say
abbrev pub IsKeyOf : Units → Snapshot → List ℕ → Type 0
IsKeyOf program m bytes =
    (keys : List (Option ℕ)) × AreHeldKeys m keys × (bytes ≡ bytes_of (words_of (contents_of m (common_cells program) keys)))
