-- The parts of a line of a trace: docs/RUNS.md, "What each step did".
use Rattle.std.specs.Prelude.{ℕ, Bool, false, nat_eq, nat_le, ◌&&◌, ◌||◌, if◌then◌else◌, List, [], ◌∷◌, codes, drop, take}
use Rattle.std.specs.List.{fold, prefix_len, starts_with}
use Rattle.std.specs.Str.{bytes_eq}
use Rattle.hep_formats.specs.LineWords.{after_blank}
use Rattle.hep_formats.specs.TurnMarks.{deed_of, first_word, from_unit, kind_of}
use Rattle.hep_formats.specs.TurnMarks.{process_of, rank, with_digit}
use Rattle.hep_formats.specs.declared.trace_line.NumberScan.{NumberScan}

-- ---- the lines of a process

-- the first of some lines that is of this process, or nothing
abbrev pub line_of : ℕ → List (List ℕ) → List ℕ
line_of p [] = []
line_of p (line ∷ lines) = if nat_eq (process_of line) p then line else line_of p lines

-- the last one
abbrev pub last_line_of : ℕ → List (List ℕ) → List ℕ
last_line_of p lines = fold (λ last line. if nat_eq (process_of line) p then line else last) [] lines

-- ---- where the process was

abbrev pub unit_of : List ℕ → List ℕ
unit_of line = first_word (from_unit line)

-- the number of the line of the source
abbrev pub source_line_of : List ℕ → List ℕ
source_line_of line = first_word (after_blank (after_blank (from_unit line)))

-- ---- what the turn did

abbrev pub is_print : List ℕ → Bool
is_print deed = bytes_eq (first_word deed) (codes "print")

-- the processes that it woke and the frames that it gave back come after a comma and a blank each
abbrev pub begins_effect : List ℕ → Bool
begins_effect text = starts_with nat_eq text (codes ", ")

abbrev pub before_effects : List ℕ → List ℕ
before_effects [] = []
before_effects (c ∷ text) = if begins_effect (c ∷ text) then [] else c ∷ before_effects text

-- what it did without these; a record is shown as it is
abbrev pub action_of : List ℕ → List ℕ
action_of line = if is_print (deed_of line) then deed_of line else before_effects (deed_of line)

-- whether the turn found its process waiting
abbrev pub waits : List ℕ → Bool
waits line = nat_eq (rank (kind_of (first_word (deed_of line)))) 5

-- ---- whom it woke

abbrev pub begins_wakes : List ℕ → Bool
begins_wakes text = starts_with nat_eq text (codes ", wakes ")

abbrev pub after_wakes : List ℕ → List ℕ
after_wakes [] = []
after_wakes (c ∷ text) = if begins_wakes (c ∷ text) then drop 8 (c ∷ text) else after_wakes text

-- a digit, a comma or a blank
abbrev pub is_in_numbers : ℕ → Bool
is_in_numbers c = nat_eq c 32 || (nat_eq c 44 || (nat_le 48 c && nat_le c 57))

-- the numbers of the processes that the turn of a line woke, with commas between them
abbrev pub woken_by : List ℕ → List ℕ
woken_by line =
    if is_print (deed_of line) then []
    else take (prefix_len is_in_numbers (after_wakes (deed_of line))) (after_wakes (deed_of line))

-- a scan for a number in such a list, after one byte more
abbrev pub scan_after : ℕ → NumberScan → ℕ → NumberScan
scan_after sought scan c =
    if nat_eq c 44 then record { number = 0; found = scan.found || nat_eq scan.number sought }
    else (if nat_eq c 32 then scan else record { number = with_digit scan.number c; found = scan.found })

abbrev pub is_among : ℕ → NumberScan → Bool
is_among sought scan = scan.found || nat_eq scan.number sought

abbrev pub is_listed : ℕ → List ℕ → Bool
is_listed sought list = is_among sought (fold (scan_after sought) (record { number = 0; found = false }) list)
