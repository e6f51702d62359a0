-- A state as objects of JSON, one a line, made of the lines that `state` writes: docs/RUNS.md, "JSON".
use Rattle.std.specs.Prelude.{ℕ, Bool, not, if◌then◌else◌, List, [], ◌∷◌, ◌++◌, codes}
use Rattle.std.specs.Str.{bytes_eq}
use Rattle.hep_formats.specs.Strings.{json_string}
use Rattle.hep_text.specs.Line.{lines}
use Rattle.hep_formats.specs.LineWords.{after_words, from, up_to, word_at}
use Rattle.hep_formats.specs.Members.{place_members, wanted_members}
use Rattle.hep_formats.specs.declared.state_kind.StateLine.{StateLine}
use Rattle.hep_formats.specs.declared.state_kind.StateLine.TheVariants.{Activation, Association, Common}
use Rattle.hep_formats.specs.declared.state_kind.StateLine.TheVariants.{Entries, Process, Return, Source, Variable}

-- ---- what a line says

-- by its first word
abbrev pub headed_kind : List ℕ → StateLine
headed_kind word =
    if bytes_eq word (codes "AFTER") then Entries
    else (if bytes_eq word (codes "PROCESS") then Process
    else (if bytes_eq word (codes "COMMON") then Common
    else (if bytes_eq word (codes "ACTIVATION") then Activation else Source)))

-- by the word after the first one, where two blanks are before that one
abbrev pub indented_kind : List ℕ → StateLine
indented_kind word =
    if bytes_eq word (codes "TO") then Return
    else (if bytes_eq word (codes "=") then Variable
    else (if bytes_eq word (codes "IS") then Association else Source))

unfoldable pub kind_of : List ℕ → StateLine
kind_of line =
    if bytes_eq (word_at 0 line) [] then (if bytes_eq (word_at 1 line) [] then indented_kind (word_at 3 line) else Source)
    else headed_kind (word_at 0 line)

-- ---- whose a line is

abbrev pub process_member : List ℕ → List ℕ
process_member line = codes "\"process\":" ++ word_at 1 line

abbrev pub common_members : List ℕ → List ℕ
common_members line = codes "\"common\":" ++ json_string (word_at 1 line) ++ (codes ",\"unit\":" ++ json_string (word_at 4 line))

abbrev pub activation_members : List ℕ → List ℕ
activation_members line = codes "\"activation\":" ++ word_at 1 line ++ (codes ",\"unit\":" ++ json_string (word_at 2 line))

-- the members that say it, after a line of this kind
abbrev pub owner_by : StateLine → List ℕ → List ℕ → List ℕ
owner_by Process owner line = process_member line
owner_by Common owner line = common_members line
owner_by Activation owner line = activation_members line
owner_by _ owner line = owner

-- ---- members

-- a level: its place and its activation
abbrev pub level_members : List ℕ → List ℕ → List ℕ → List ℕ
level_members unit line activation = place_members unit line ++ (codes ",\"activation\":" ++ activation)

-- whether a process waits
unfoldable pub is_waiting : List ℕ → Bool
is_waiting line = bytes_eq (word_at 8 line) (codes "WAITING")

-- whether a process waits, and what for
abbrev pub wait_members : List ℕ → List ℕ
wait_members line = if is_waiting line then wanted_members (after_words 10 line) else codes ",\"state\":\"living\""

-- whether the name of a variable has subscripts after it
unfoldable pub has_subscripts : List ℕ → Bool
has_subscripts elements = not (bytes_eq (from 40 elements) [])

-- the subscripts, with the parentheses around them
abbrev pub subscripts_member : List ℕ → List ℕ
subscripts_member elements = codes ",\"subscripts\":" ++ json_string (from 40 elements)

-- where there are any
abbrev pub subscripts_members : List ℕ → List ℕ
subscripts_members elements = if has_subscripts elements then subscripts_member elements else []

-- the name of a variable, and of elements their subscripts
abbrev pub name_members : List ℕ → List ℕ
name_members elements = codes ",\"name\":" ++ json_string (up_to 40 elements) ++ subscripts_members elements

-- a value of a cell
abbrev pub value : List ℕ → List ℕ
value word =
    if bytes_eq word (codes "UNDEFINED") then codes "null"
    else (if bytes_eq word (codes "T") then codes "true" else (if bytes_eq word (codes "F") then codes "false" else word))

-- whether it is full, of an asynchronous variable
abbrev pub full_member : List ℕ → List ℕ
full_member word =
    if bytes_eq word (codes "FULL") then codes ",\"full\":true" else (if bytes_eq word (codes "EMPTY") then codes ",\"full\":false" else [])

-- ---- objects

abbrev pub entries_object : List ℕ → List ℕ
entries_object line = codes "{\"entries\":" ++ word_at 1 line ++ codes "}\n"

abbrev pub process_object : List ℕ → List ℕ → List ℕ
process_object owner line =
    codes "{" ++ owner ++ level_members (word_at 2 line) (word_at 4 line) (word_at 7 line) ++ wait_members line ++ codes "}\n"

abbrev pub return_object : List ℕ → List ℕ → List ℕ
return_object owner line =
    codes "{" ++ owner ++ level_members (word_at 4 line) (word_at 6 line) (word_at 9 line) ++ codes ",\"state\":\"calling\"}\n"

abbrev pub variable_object : List ℕ → List ℕ → List ℕ
variable_object owner line =
    codes "{" ++ owner ++ name_members (word_at 2 line) ++ codes ",\"value\":" ++ value (word_at 4 line) ++ full_member (word_at 5 line)
    ++ codes "}\n"

abbrev pub association_object : List ℕ → List ℕ → List ℕ
association_object owner line =
    codes "{" ++ owner ++ codes ",\"name\":" ++ json_string (word_at 2 line)
    ++ codes ",\"is\":" ++ json_string (after_words 4 line) ++ codes "}\n"

-- the object of a line of this kind, if it has one
abbrev pub object_by : StateLine → List ℕ → List ℕ → List ℕ
object_by Entries owner line = entries_object line
object_by Process owner line = process_object owner line
object_by Return owner line = return_object owner line
object_by Variable owner line = variable_object owner line
object_by Association owner line = association_object owner line
object_by _ owner line = []

-- ---- all of them

-- of the lines that are left, where the last one with an owner had these members
abbrev pub objects_from : List ℕ → List (List ℕ) → List ℕ
objects_from owner [] = []
objects_from owner (line ∷ ls) =
    object_by (kind_of line) (owner_by (kind_of line) owner line) line ++ objects_from (owner_by (kind_of line) owner line) ls

abbrev pub state_objects : List ℕ → List ℕ
state_objects state = objects_from [] (lines state)
