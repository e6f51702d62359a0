-- What each turn of a run did, read from its line in the text of `trace`: docs/RUNS.md, "A picture".
use Rattle.std.specs.Prelude.{ℕ, ◌+◌, ◌-◌, ◌*◌, Bool, not, nat_eq, nat_le, ◌&&◌, if◌then◌else◌, List, codes, drop, take}
use Rattle.std.specs.List.{fold, prefix_len}
use Rattle.std.specs.Str.{bytes_eq}
use Rattle.hep_formats.specs.LineWords.{after_blank}
use Rattle.hep_formats.specs.declared.turn_mark.TurnKind.{TurnKind}
use Rattle.hep_formats.specs.declared.turn_mark.TurnKind.TheVariants.{Begins, Call, Create, End, Fault, Fill, Idle, Other, Print, Read}
use Rattle.hep_formats.specs.declared.turn_mark.TurnKind.TheVariants.{Store, Take, Wait}
use Rattle.hep_formats.specs.declared.turn_mark.TurnMark.{TurnMark}

-- ---- the words of a line

-- a word ends at a blank or a comma
abbrev pub is_in_word : ℕ → Bool
is_in_word c = not (nat_eq c 32) && not (nat_eq c 44)

abbrev pub first_word : List ℕ → List ℕ
first_word text = take (prefix_len is_in_word text) text

-- a number after one digit more; of a number of more than seven digits the first seven count
abbrev pub with_digit : ℕ → ℕ → ℕ
with_digit n c = if nat_le n 999999 then 10 * n + (c - 48) else n

-- the number at the front of a text
abbrev pub number_in : List ℕ → ℕ
number_in text = fold with_digit 0 (first_word text)

-- a line has the number of the entry, PROCESS and its number, the unit, LINE and its number, and then what the turn did
abbrev pub process_of : List ℕ → ℕ
process_of line = number_in (after_blank (after_blank line))

abbrev pub from_unit : List ℕ → List ℕ
from_unit line = after_blank (after_blank (after_blank line))

abbrev pub deed_of : List ℕ → List ℕ
deed_of line = after_blank (after_blank (after_blank (from_unit line)))

-- ---- what matters of a turn

-- by the first word of what it did
abbrev pub kind_of : List ℕ → TurnKind
kind_of verb =
    if bytes_eq verb (codes "read") then Read
    else (if bytes_eq verb (codes "calls") then Call
    else (if bytes_eq verb (codes "returns") then Call
    else (if bytes_eq verb (codes "waits") then Wait
    else (if bytes_eq verb (codes "store") then Store
    else (if bytes_eq verb (codes "creates") then Create
    else (if bytes_eq verb (codes "resumes") then Create
    else (if bytes_eq verb (codes "take") then Take
    else (if bytes_eq verb (codes "purge") then Take
    else (if bytes_eq verb (codes "fill") then Fill
    else (if bytes_eq verb (codes "print") then Print
    else (if bytes_eq verb (codes "ends") then End
    else (if bytes_eq verb (codes "stop") then End
    else (if bytes_eq verb (codes "FAULT") then Fault else Other)))))))))))))

-- the number of the process that a turn created, or 0
abbrev pub created_by : List ℕ → ℕ
created_by deed =
    if bytes_eq (first_word deed) (codes "creates") then number_in (after_blank deed)
    else (if bytes_eq (first_word deed) (codes "resumes") then number_in (after_blank (after_blank deed)) else 0)

abbrev pub mark_of : List ℕ → TurnMark
mark_of line = record { process = process_of line; kind = kind_of (first_word (deed_of line)); created = created_by (deed_of line) }

-- from what matters least on
abbrev pub rank : TurnKind → ℕ
rank Idle = 0
rank Begins = 1
rank Other = 2
rank Read = 3
rank Call = 4
rank Wait = 5
rank Store = 6
rank Create = 7
rank Take = 8
rank Fill = 9
rank Print = 10
rank End = 11
rank Fault = 12

-- the highest number of a process that took a turn or was created
abbrev pub higher : ℕ → ℕ → ℕ
higher m n = if nat_le m n then n else m

abbrev pub highest_process : List TurnMark → ℕ
highest_process marks = fold (λ n mark. higher n (higher mark.process mark.created)) 0 marks

abbrev pub lower : ℕ → ℕ → ℕ
lower m n = if nat_le m n then m else n

-- how many processes there are up to the highest number; numbers that are read have seven digits at most
abbrev pub processes_in : List TurnMark → ℕ
processes_in marks = lower (highest_process marks) 16777216
