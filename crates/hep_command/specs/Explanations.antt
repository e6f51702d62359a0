-- The names and numbers that the program explains: docs/REFUSALS.md and docs/FAULTS.md.
use Rattle.std.specs.Prelude.{◌||◌, ◌++◌, ◌∷◌, [], ℕ, Bool, List, Option, Some, None, codes, false, map, nat_eq}
use Rattle.std.specs.List.{list_any}
use Rattle.std.specs.Str.{bytes_eq}
use Rattle.std.specs.Char.{to_ascii_uppercase}
use Rattle.clap.specs.Words.{Text}
use Rattle.hep_command.specs.Numbers.{number_within}

-- of lines, of statements, of a program, of choices, of the texts of histories and choices, and of workers
abbrev pub refusals : List ℕ
refusals =
    101 ∷ 102 ∷ 103 ∷ 104 ∷ 105 ∷ 106 ∷ 107
    ∷ 201 ∷ 202 ∷ 203 ∷ 204 ∷ 205
    ∷ 301 ∷ 302 ∷ 303 ∷ 304 ∷ 305 ∷ 306 ∷ 307 ∷ 308 ∷ 309 ∷ 310 ∷ 311 ∷ 312 ∷ 401 ∷ 402 ∷ 501
    ∷ 601 ∷ 602 ∷ 603 ∷ 506 ∷ 701 ∷ 702 ∷ 703 ∷ 704 ∷ 705 ∷ []

abbrev pub is_refusal : ℕ → Bool
is_refusal number = list_any (nat_eq number) refusals

abbrev pub faults : List Text
faults =
    codes "OVERFLOW" ∷ codes "DIVIDE" ∷ codes "RANGE" ∷ codes "UNDEFINED" ∷ codes "SHAPE" ∷ codes "STEP" ∷ []

-- the other ends of a run, and what is said of it
abbrev pub ends : List Text
ends =
    codes "FAULT" ∷ codes "WAITING" ∷ codes "STOPPED ARENA FULL" ∷ codes "ARENA FULL"
    ∷ codes "STOPPED STEP LIMIT" ∷ codes "STEP LIMIT" ∷ codes "NO MEMORY" ∷ codes "WORKERS REFUSED"
    ∷ codes "READ FAULT" ∷ codes "WRITE FAULT" ∷ codes "REFUSED" ∷ codes "STILL RUNNING" ∷ codes "WARNING" ∷ codes "RACE"
    ∷ codes "EXPECTED" ∷ []

abbrev pub statuses : List Text
statuses =
    codes "STATUS" ∷ codes "STATUS 0" ∷ codes "STATUS 1" ∷ codes "STATUS 2" ∷ codes "STATUS 3" ∷ codes "STATUS 4"
    ∷ codes "STATUS 5" ∷ codes "STATUS 6" ∷ codes "STATUS 7" ∷ codes "STATUS 8" ∷ codes "STATUS 9" ∷ codes "STATUS 10"
    ∷ codes "STATUS 70" ∷ []

-- other words for what a run shows, and the list of all names and numbers
abbrev pub terms : List Text
terms = codes "DEADLOCK" ∷ codes "CIRCLE" ∷ codes "SEED" ∷ codes "WORDS" ∷ []

-- the numbers of the statuses
abbrev pub status_numbers : List ℕ
status_numbers = 0 ∷ 1 ∷ 2 ∷ 3 ∷ 4 ∷ 5 ∷ 6 ∷ 7 ∷ 8 ∷ 9 ∷ 10 ∷ 70 ∷ []

abbrev pub is_status : ℕ → Bool
is_status number = list_any (nat_eq number) status_numbers

abbrev pub is_among : List Text → Text → Bool
is_among names name = list_any (bytes_eq name) names

-- a name with one more word, after a blank
abbrev pub with_word : Text → Option Text → Text
with_word name None = name
with_word name (Some word) = (name ++ 32 ∷ []) ++ word

-- the words joined by blanks, their small letters as capitals
abbrev pub name_of : Text → Option Text → Option Text → Text
name_of first second third = map to_ascii_uppercase (with_word (with_word first second) third)

abbrev pub is_explained_number : Option ℕ → Bool
is_explained_number None = false
is_explained_number (Some number) = is_refusal number || is_status number

-- the name is the number of a refusal or of a status
abbrev pub is_number : Text → Bool
is_number name = is_explained_number (number_within 0 65535 name)

-- the name is that of a fault, of another end of a run, of a status or of a term
abbrev pub has_meaning : Text → Bool
has_meaning name = is_among faults name || (is_among ends name || (is_among statuses name || is_among terms name))

abbrev pub is_explained : Text → Bool
is_explained name = has_meaning name || is_number name
