-- Texts with marks of color at a terminal: docs/RUNS.md, "Colors".
use Rattle.std.specs.Prelude.{ℕ, Bool, true, false, nat_eq, if◌then◌else◌, List, [], ◌∷◌, ◌++◌, ◌||◌, codes, ◌≡◌, take, length}
use Rattle.std.specs.Str.{bytes_eq}
use Rattle.hep_formats.specs.declared.mark.Mark.{Mark}
use Rattle.hep_formats.specs.declared.mark.Mark.TheVariants.{Absent, Blue, Bold, BoldBlue, BoldGreen, BoldRed, Dim, Magenta, Plain, Red, Yellow}
use Rattle.hep_formats.specs.declared.place.Place.{Place}
use Rattle.hep_formats.specs.declared.place.Place.TheVariants.{Inside, Line, Marked, OneWord, Record, TwoWords, Word}
use Rattle.hep_formats.specs.declared.place.Step.{Step}
use Rattle.hep_formats.specs.declared.place.TextKind.{TextKind}
use Rattle.hep_formats.specs.declared.place.TextKind.TheVariants.{Outcome, State, Trace}

-- ---- marks

-- the parameters of a mark
abbrev pub mark_number : Mark → List ℕ
mark_number Absent = []
mark_number Plain = codes "0"
mark_number Bold = codes "1"
mark_number Dim = codes "2"
mark_number Red = codes "31"
mark_number BoldRed = codes "1;31"
mark_number BoldGreen = codes "1;32"
mark_number Yellow = codes "33"
mark_number Blue = codes "34"
mark_number BoldBlue = codes "1;34"
mark_number Magenta = codes "35"

-- between ESC [ and m (ECMA-48, 8.3.117: SELECT GRAPHIC RENDITION)
abbrev pub mark_text : Mark → List ℕ
mark_text Absent = []
mark_text mark = 27 ∷ 91 ∷ mark_number mark ++ codes "m"

-- ---- where marks are

-- a mark to the end of the line, or of two words, or none
abbrev pub marked : Mark → Step
marked m = record { mark = m; place = Marked }

abbrev pub two_words : Mark → Step
two_words m = record { mark = m; place = TwoWords }

abbrev pub at : Place → Step
at p = record { mark = Absent; place = p }

-- a text begins so
abbrev pub begins : List ℕ → List ℕ → Bool
begins text word = bytes_eq word (take (length word) text)

-- the mark of the word with which a text begins, and how far it goes
abbrev pub state_step : List ℕ → Step
state_step text =
    if begins text (codes "PROCESS ") then two_words Bold
    else (if begins text (codes "WAITING ") || begins text (codes "CIRCLE ") then marked Red
    else (if begins text (codes "| ") then marked Dim else at Inside))

abbrev pub trace_step : List ℕ → Step
trace_step text =
    if begins text (codes "PROCESS ") then two_words Bold
    else (if begins text (codes "take ") || begins text (codes "ask ") || begins text (codes "purge ") then marked Blue
    else (if begins text (codes "fill ") then marked BoldBlue
    else (if begins text (codes "read ") || begins text (codes "store ") then marked Yellow
    else (if begins text (codes "waits ") then marked Red
    else (if begins text (codes "FAULT ") then marked BoldRed
    else (if begins text (codes "print") then marked BoldGreen
    else (if begins text (codes "creates ") || begins text (codes "resumes") then marked Magenta
    else (if begins text (codes "calls ") || begins text (codes "returns") then marked Magenta else at Inside))))))))

abbrev pub outcome_step : List ℕ → Step
outcome_step text =
    if begins text (codes "STATUS ") then two_words Bold
    else (if begins text (codes "FAULT ") || begins text (codes "REFUSED ") || begins text (codes "STOPPED ") then marked BoldRed
    else (if begins text (codes "WAITING ") then marked Red
    else (if begins text (codes "WARNING ") then marked Yellow else at Inside)))

abbrev pub word_step : TextKind → List ℕ → Step
word_step State text = state_step text
word_step Trace text = trace_step text
word_step Outcome text = outcome_step text

-- the mark after a place where a line ends
abbrev pub last_mark : Place → Mark
last_mark Marked = Plain
last_mark OneWord = Plain
last_mark TwoWords = Plain
last_mark _ = Absent

abbrev pub feed_step : Place → Step
feed_step place = record { mark = last_mark place; place = Line }

-- at a blank: of an outcome a line that begins with one is a record, and gets no mark
abbrev pub blank_step : TextKind → Place → Step
blank_step Outcome Line = at Record
blank_step kind Record = at Record
blank_step kind Marked = at Marked
blank_step kind OneWord = record { mark = Plain; place = Word }
blank_step kind TwoWords = at OneWord
blank_step kind place = at Word

-- at a byte that is neither a blank nor a line feed
abbrev pub letter_step : TextKind → Place → List ℕ → Step
letter_step kind Line text = word_step kind text
letter_step kind Word text = word_step kind text
letter_step kind place text = at place

-- the mark before the first byte of a text, and the place after it
abbrev pub step_at : TextKind → Place → ℕ → List ℕ → Step
step_at kind place c text = if nat_eq c 10 then feed_step place else (if nat_eq c 32 then blank_step kind place else letter_step kind place text)

-- a text from a place on, with its marks
abbrev pub colored_from : TextKind → Place → List ℕ → List ℕ
colored_from kind place [] = mark_text (last_mark place)
colored_from kind place (c ∷ cs) =
    mark_text ((step_at kind place c (c ∷ cs)).mark) ++ c ∷ colored_from kind ((step_at kind place c (c ∷ cs)).place) cs

abbrev pub colored : TextKind → List ℕ → List ℕ
colored kind text = colored_from kind Line text

-- ---- without marks

-- a text in which a mark has begun or not, without its marks, each of which goes from ESC to m
abbrev pub uncolored_from : Bool → List ℕ → List ℕ
uncolored_from _ [] = []
uncolored_from false (c ∷ cs) = if nat_eq c 27 then uncolored_from true cs else c ∷ uncolored_from false cs
uncolored_from true (c ∷ cs) = if nat_eq c 109 then uncolored_from false cs else uncolored_from true cs

abbrev pub uncolored : List ℕ → List ℕ
uncolored text = uncolored_from false text

-- no byte is ESC
abbrev pub HasNoEscape : List ℕ → Type 0
HasNoEscape [] = Unit {0}
HasNoEscape (c ∷ cs) = (nat_eq c 27 ≡ false) × HasNoEscape cs
