-- Texts as strings of JSON: RFC 8259, 7, and docs/RUNS.md, "JSON".
use Rattle.std.specs.Prelude.{◌≤◌, ◌+◌, ◌/◌, ◌%◌, ◌&&◌, ◌||◌, ℕ, Bool, true, false, nat_eq, nat_le, nat_lt, if◌then◌else◌}
use Rattle.std.specs.Prelude.{List, [], ◌∷◌, ◌++◌, codes, Option, Some, None}
use Rattle.std.specs.List.{flat_map}

abbrev pub quote : ℕ
quote = 34

abbrev pub backslash : ℕ
backslash = 92

-- ---- what is written

-- a digit of base 16
abbrev pub hex_digit : ℕ → ℕ
hex_digit d = if nat_lt d 10 then 48 + d else 87 + d

-- a byte by its number
abbrev pub escape : ℕ → List ℕ
escape byte = codes "\\u00" ++ hex_digit (byte / 16 % 16) ∷ hex_digit (byte % 16) ∷ []

-- a byte between the quotes: a quote or a backslash after a backslash, itself where it is printable, and else by its number
abbrev pub json_character : ℕ → List ℕ
json_character byte =
    if nat_eq byte quote || nat_eq byte backslash then backslash ∷ byte ∷ []
    else (if nat_le 32 byte && nat_le byte 126 then byte ∷ [] else escape byte)

-- a text as a string
unfoldable pub json_string : List ℕ → List ℕ
json_string text = quote ∷ flat_map json_character text ++ quote ∷ []

-- a string of an array, after a comma where others come before it
abbrev pub json_item : Bool → List ℕ → List ℕ
json_item true text = codes "," ++ json_string text
json_item false text = json_string text

-- strings of an array; the flag says that others come before these
abbrev pub json_items : Bool → List (List ℕ) → List ℕ
json_items follows [] = []
json_items follows (text ∷ texts) = json_item follows text ++ json_items true texts

-- texts as an array of strings
abbrev pub json_strings : List (List ℕ) → List ℕ
json_strings texts = codes "[" ++ json_items false texts ++ codes "]"

-- ---- what a reader sees

-- a printable character of ASCII, or a blank
abbrev pub IsPrintable : ℕ → Type 0
IsPrintable byte = (32 ≤ byte) × (byte ≤ 126)

-- what comes after the quote that ends a string, which is the first one that isn't after a backslash that counts; the flag says that such
-- a backslash was just read
unfoldable pub after_quote : Bool → List ℕ → Option (List ℕ)
after_quote escaped [] = None
after_quote true (c ∷ s) = after_quote false s
after_quote false (c ∷ s) = if nat_eq c quote then Some s else after_quote (nat_eq c backslash) s

-- what comes after a string that the text begins with
abbrev pub after_string : List ℕ → Option (List ℕ)
after_string [] = None
after_string (c ∷ s) = if nat_eq c quote then after_quote false s else None
