-- Why processes wait as objects of JSON, one a line, made of the lines that `why` writes: docs/RUNS.md, "JSON".
use Rattle.std.specs.Prelude.{ℕ, ◌+◌, ◌-◌, if◌then◌else◌, List, ◌++◌, codes, length, take, []}
use Rattle.std.specs.List.{flat_map}
use Rattle.std.specs.Str.{bytes_eq}
use Rattle.hep_formats.specs.Strings.{json_string}
use Rattle.hep_text.specs.Line.{lines}
use Rattle.hep_formats.specs.LineWords.{after_words, up_to, word_at}
use Rattle.hep_formats.specs.Members.{place_members, wanted_members}
use Rattle.hep_formats.specs.declared.why_kind.WhyLine.{WhyLine}
use Rattle.hep_formats.specs.declared.why_kind.WhyLine.TheVariants.{Able, Brought, Circle, Entries, Latest, Unchanged, Waiting}

-- ---- what a line says

-- by its first word
abbrev pub headed_kind : List ℕ → WhyLine
headed_kind word =
    if bytes_eq word (codes "AFTER") then Entries
    else (if bytes_eq word (codes "WAITING") then Waiting
    else (if bytes_eq word (codes "CIRCLE") then Circle else Able))

-- of a change, the words from what was done on; there is a word more before them where its process `has ended`
unfoldable pub deed : List ℕ → List ℕ
deed line = after_words (if bytes_eq (word_at 10 line) (codes "has") then 12 else 11) line

-- by the words after a bar: only the latest change has the name of what was changed, and the one before says `it`
abbrev pub noted_kind : List ℕ → WhyLine
noted_kind line =
    if bytes_eq (word_at 7 line) (codes "nobody") then Unchanged
    else (if bytes_eq (word_at 1 (deed line)) (codes "it") then Brought else Latest)

unfoldable pub kind_of : List ℕ → WhyLine
kind_of line = if bytes_eq (word_at 0 line) [] then noted_kind line else headed_kind (word_at 0 line)

-- ---- members

-- what has become of the process that made a change, by the word after `which`
abbrev pub fate : List ℕ → List ℕ
fate word =
    if bytes_eq word (codes "waits,") then codes "\"waiting\"" else (if bytes_eq word (codes "lives,") then codes "\"living\"" else codes "\"ended\"")

-- the process of a change and its place, with the words from that on
abbrev pub change_front : List ℕ → List ℕ → List ℕ
change_front line place = codes "{\"process\":" ++ up_to 44 (word_at 8 line) ++ place_members (word_at 0 place) (word_at 2 place)

-- what has become of the process, what it did, and the entry
abbrev pub change_members : List ℕ → List ℕ → List ℕ
change_members line place =
    codes ",\"state\":" ++ fate (word_at 10 line) ++ (codes ",\"did\":" ++ json_string (word_at 0 (deed line))) ++ (codes ",\"entry\":" ++ word_at 5 place)

abbrev pub change_object : List ℕ → List ℕ → List ℕ
change_object line place = change_front line place ++ change_members line place ++ codes "}"

-- the name of what a process waits for, as its unit calls it
abbrev pub name_member : List ℕ → List ℕ
name_member name = codes ",\"name\":" ++ json_string name

-- the processes of a circle after the first one: a comma, a blank and the first one again end the line
abbrev pub others : List ℕ → List ℕ
others line = take (length (after_words 8 line) - (length (word_at 1 line) + 2)) (after_words 8 line)

-- ---- fronts of objects, and what is added to them

abbrev pub entries_front : List ℕ → List ℕ
entries_front line = codes "{\"entries\":" ++ word_at 1 line

-- the other objects end the one before
abbrev pub waiting_front : List ℕ → List ℕ
waiting_front line =
    codes "}\n{\"process\":" ++ word_at 1 line ++ place_members (word_at 2 line) (word_at 4 line)
    ++ wanted_members (after_words 6 line)

abbrev pub circle_front : List ℕ → List ℕ
circle_front line = codes "}\n{\"circle\":[" ++ word_at 1 line ++ codes ", " ++ others line ++ codes "]"

abbrev pub able_front : List ℕ → List ℕ
able_front line = codes "}\n{\"can_go_on\":" ++ word_at 1 line

abbrev pub unchanged_members : List ℕ → List ℕ
unchanged_members line = name_member (word_at 12 line) ++ codes ",\"last\":null"

abbrev pub latest_members : List ℕ → List ℕ
latest_members line = name_member (word_at 1 (deed line)) ++ codes ",\"last\":" ++ change_object line (after_words 3 (deed line))

abbrev pub brought_member : List ℕ → List ℕ
brought_member line = codes ",\"brought\":" ++ change_object line (after_words 4 (deed line))

-- what a line of this kind begins or adds
abbrev pub part_by : WhyLine → List ℕ → List ℕ
part_by Entries line = entries_front line
part_by Waiting line = waiting_front line
part_by Unchanged line = unchanged_members line
part_by Latest line = latest_members line
part_by Brought line = brought_member line
part_by Circle line = circle_front line
part_by Able line = able_front line

abbrev pub part : List ℕ → List ℕ
part line = part_by (kind_of line) line

-- ---- all of them

abbrev pub why_objects : List ℕ → List ℕ
why_objects why = flat_map part (lines why) ++ codes "}\n"
