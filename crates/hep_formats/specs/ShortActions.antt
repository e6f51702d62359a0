-- What a turn did, in few words: docs/RUNS.md, "Lanes".
use Rattle.std.specs.Prelude.{ℕ, Bool, ◌||◌, nat_eq, if◌then◌else◌, List, [], ◌∷◌, ◌++◌, codes, length}
use Rattle.std.specs.List.{filter}
use Rattle.std.specs.Str.{bytes_eq}
use Rattle.hep_formats.specs.LineWords.{after_blank, before_blank, is_other}
use Rattle.hep_formats.specs.TurnMarks.{first_word}

-- ---- accesses

-- what is between the name and the value, by the verb of an access; nothing for other verbs
abbrev pub arrow_for : List ℕ → List ℕ
arrow_for verb =
    if bytes_eq verb (codes "take") || bytes_eq verb (codes "read") then codes " -> "
    else (if bytes_eq verb (codes "fill") || (bytes_eq verb (codes "store") || bytes_eq verb (codes "next")) then codes " <- "
    else (if bytes_eq verb (codes "ask") then codes " = " else []))

-- VERB NAME = VALUE
abbrev pub access_text : List ℕ → List ℕ → List ℕ
access_text arrow action =
    before_blank (after_blank action) ++ arrow ++ first_word (after_blank (after_blank (after_blank action)))

-- ---- operations and functions on values

abbrev pub is_arithmetic : List ℕ → Bool
is_arithmetic verb =
    bytes_eq verb (codes "add") || (bytes_eq verb (codes "subtract") || (bytes_eq verb (codes "multiply")
    || (bytes_eq verb (codes "divide") || (bytes_eq verb (codes "raise") || bytes_eq verb (codes "sign")))))

abbrev pub is_computation : List ℕ → Bool
is_computation verb =
    is_arithmetic verb || (bytes_eq verb (codes "compare") || (bytes_eq verb (codes "combine")
    || (bytes_eq verb (codes "negate") || bytes_eq verb (codes "apply"))))

-- ---- other actions

-- what is waited for: its state and its name
abbrev pub wait_text : List ℕ → List ℕ
wait_text action = before_blank (after_blank (after_blank action)) ++ 32 ∷ before_blank (after_blank (after_blank (after_blank action)))

abbrev pub quoted : List ℕ → List ℕ
quoted text = codes "\"" ++ text ++ codes "\""

-- the beginning of a DO is an access after one word more
abbrev pub other_text : List ℕ → List ℕ → List ℕ
other_text verb action =
    if bytes_eq verb (codes "begin") then access_text (codes " <- ") (after_blank action)
    else (if bytes_eq verb (codes "go") then codes "to " ++ after_blank (after_blank (after_blank action))
    else (if bytes_eq verb (codes "creates") then codes "CREATE " ++ first_word (after_blank action)
    else (if bytes_eq verb (codes "waits") then wait_text action
    else (if bytes_eq verb (codes "print") then quoted (after_blank action) else action))))

-- ---- all

abbrev pub short_by : List ℕ → List ℕ → List ℕ → List ℕ
short_by verb arrow action =
    if nat_eq (length arrow) 0 then (if is_computation verb then filter (is_other 32) (after_blank action) else other_text verb action)
    else access_text arrow action

abbrev pub short_action : List ℕ → List ℕ
short_action action = short_by (first_word action) (arrow_for (first_word action)) action
