-- Computed examples of strings.
use Rattle.std.proofs.Common.{◌≡◌, ◌∷◌, ◌++◌, [], Some, codes, refl}
use Rattle.hep_formats.specs.Strings.{after_quote, after_string, json_string, json_strings}

plain : json_string (codes "FULL $A OF 1") ≡ codes "\"FULL $A OF 1\""
unfolding json_string
plain = refl

-- a quote and a backslash are after a backslash
escaped : json_string (codes "C:\\A \"B\".f") ≡ codes "\"C:\\\\A \\\"B\\\".f\""
unfolding json_string
escaped = refl

-- a line feed, and the two bytes of a letter in UTF-8
by_number : json_string (10 ∷ 195 ∷ 169 ∷ []) ≡ codes "\"\\u000a\\u00c3\\u00a9\""
unfolding json_string
by_number = refl

-- a reader goes on after the last quote
ended : after_string (json_string (codes "A\"\\") ++ codes ",1") ≡ Some (codes ",1")
unfolding after_quote json_string
ended = refl

array : json_strings (codes " 7" ∷ codes "WAITING" ∷ []) ≡ codes "[\" 7\",\"WAITING\"]"
unfolding json_string
array = refl

empty : json_strings [] ≡ codes "[]"
empty = refl
