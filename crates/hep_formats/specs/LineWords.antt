-- The words of a line, between blanks.
use Rattle.std.specs.Prelude.{ℕ, zero, suc, Bool, not, nat_eq, List, [], ◌∷◌, take, drop}
use Rattle.std.specs.List.{prefix_len}

abbrev pub is_other : ℕ → ℕ → Bool
is_other mark byte = not (nat_eq byte mark)

-- the bytes before the first one of a kind, or all of them where there is none
abbrev pub up_to : ℕ → List ℕ → List ℕ
up_to mark text = take (prefix_len (is_other mark) text) text

-- and those from it on, or none
abbrev pub from : ℕ → List ℕ → List ℕ
from mark text = drop (prefix_len (is_other mark) text) text

-- a text up to its first blank, whatever else is in it
abbrev pub before_blank : List ℕ → List ℕ
before_blank text = up_to 32 text

-- what comes after the first blank
abbrev pub after_blank : List ℕ → List ℕ
after_blank text = drop 1 (from 32 text)

-- what comes after a number of words, each of which ends at a blank
unfoldable pub after_words : ℕ → List ℕ → List ℕ
after_words zero line = line
after_words (suc n) line = after_blank (after_words n line)

-- the word at an index: it is empty where two blanks are side by side, and past the end of the line
unfoldable pub word_at : ℕ → List ℕ → List ℕ
word_at index line = before_blank (after_words index line)
