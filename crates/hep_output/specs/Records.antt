-- The lines of records: docs/LANGUAGE.md, 5, "What a PRINT writes".
use Rattle.std.specs.Prelude.{ℕ, Bool, true, false, not, ◌&&◌, if◌then◌else◌, List, [], ◌∷◌, ◌++◌, codes}
use Rattle.std.specs.Fmt.{signed_decimal}
use Rattle.hep_machine.specs.declared.record.Item.{Item}
use Rattle.hep_machine.specs.declared.record.Item.TheVariants.{Int, Truth, Text}

abbrev pub item_text : Item → List ℕ
item_text (Int z) = signed_decimal z
item_text (Truth true) = codes "T"
item_text (Truth false) = codes "F"
item_text (Text cs) = cs

abbrev pub is_text : Item → Bool
is_text (Int z) = false
is_text (Truth b) = false
is_text (Text cs) = true

-- the blank between an item and the one before it, which is no character constant where the flag is set
abbrev pub separator : Bool → Item → List ℕ
separator follows i = if follows && not (is_text i) then codes " " else []

abbrev pub items_text : Bool → List Item → List ℕ
items_text follows [] = []
items_text follows (i ∷ is) = separator follows i ++ item_text i ++ items_text (not (is_text i)) is

-- a blank, then the items, with a blank between two neighbours that are both no character constants
abbrev pub record_text : List Item → List ℕ
record_text items = codes " " ++ items_text false items ++ codes "\n"

abbrev pub records_text : List (List Item) → List ℕ
records_text [] = []
records_text (r ∷ rs) = record_text r ++ records_text rs
