-- The lines of waiting processes, with the reasons: docs/RUNS.md, "Why processes wait".
use Rattle.std.specs.Prelude.{ℕ, Bool, true, false, if◌then◌else◌, nat_eq, not, List, [], ◌∷◌, ◌++◌, codes, is_some, Option, Some, None, slice_get}
use Rattle.std.specs.Fmt.{decimal}
use Rattle.std.specs.List.{flat_map}
use Rattle.hep_machine.specs.Words.{Units}
use Rattle.hep_image.specs.Names.{names_in_order}
use Rattle.hep_text.specs.LineDisplay.{words_text}
use Rattle.hep_event.specs.Names.{name_found}
use Rattle.hep_event.specs.Waiting.{listed_text}
use Rattle.hep_why.specs.WaitCycles.{circles_among, next_of, next_of_change}
use Rattle.hep_why.specs.declared.reason.Change.{Change}
use Rattle.hep_why.specs.declared.reason.MakersWait.{MakersWait}
use Rattle.hep_why.specs.declared.reason.Reason.{Reason}

-- ---- who changed it

-- the process that changed last what this one waits for waits itself, and so does the one that made the change before
abbrev pub makers_wait : List Reason → Reason → MakersWait
makers_wait reasons r = record { latest = is_some (next_of reasons r); brought = is_some (next_of_change reasons r.brought) }

-- what has become of a process: it waits, or lives, or has ended
abbrev pub fate_text : Bool → Bool → List ℕ
fate_text true lives = codes "waits"
fate_text false true = codes "lives"
fate_text false false = codes "has ended"

-- what a process waits for to be full was emptied last; otherwise it was filled
abbrev pub deed_text : Bool → List ℕ
deed_text true = codes "emptied"
deed_text false = codes "filled"

-- what was changed, the place of its process, in a unit of this name, and the number of the entry
abbrev pub step_words : List ℕ → List ℕ → ℕ → ℕ → List ℕ
step_words called unit line entry =
    codes " " ++ called ++ codes " at " ++ unit ++ codes " LINE " ++ decimal line ++ codes " in entry " ++ decimal entry

-- the process that made the change, what has become of it, and whether its storage unit is waited for to be full
abbrev pub maker_words : ℕ → List ℕ → Bool → List ℕ
maker_words process fate full = codes "process " ++ decimal process ++ codes ", which " ++ fate ++ codes ", " ++ deed_text full

-- these are the names by their numbers
abbrev pub change_words : List (List ℕ) → Bool → List ℕ → List ℕ → Change → List ℕ
change_words names full called fate c =
    maker_words c.place.process fate full ++ step_words called (name_found (slice_get names c.place.unit)) c.place.line c.entry

-- the words for the latest change, if there was one
abbrev pub latest_words : List (List ℕ) → Bool → List ℕ → List ℕ → Option Change → List ℕ
latest_words names full called fate None = codes "nobody has filled or emptied " ++ called
latest_words names full called fate (Some c) = change_words names full called fate c

-- the line for the change before, which brought what is waited for, if there was one
abbrev pub brought_text : List (List ℕ) → Bool → List ℕ → Option Change → List ℕ
brought_text names full fate None = []
brought_text names full fate (Some c) = words_text (change_words names (not full) (codes "it last,") fate c)

-- the lines of a waiting process; the processes that made the changes wait themselves, or don't
abbrev pub reason_lines : Units → Reason → MakersWait → List ℕ
reason_lines program r wait =
    listed_text (names_in_order program) r.listed
    ++ words_text (latest_words (names_in_order program) r.listed.full r.called (fate_text wait.latest r.lives) r.latest)
    ++ brought_text (names_in_order program) r.listed.full (fate_text wait.brought r.bringer_lives) r.brought

abbrev pub reason_text : Units → List Reason → Reason → List ℕ
reason_text program reasons r = reason_lines program r (makers_wait reasons r)

-- ---- cycles

abbrev pub member_text : ℕ → List ℕ
member_text p = codes " " ++ decimal p ++ codes ","

abbrev pub front_text : ℕ → List ℕ
front_text p = codes "CIRCLE " ++ decimal p ++ codes " WAITS FOR WHAT WAS CHANGED BY"

abbrev pub end_text : ℕ → List ℕ
end_text p = codes " " ++ decimal p ++ codes "\n"

-- the first process, those after it, and the first one again; one process alone is no line
abbrev pub circle_text : List ℕ → List ℕ
circle_text [] = []
circle_text (p ∷ []) = []
circle_text (p ∷ q ∷ ps) = front_text p ++ flat_map member_text (q ∷ ps) ++ end_text p

unfoldable pub circles_text : List Reason → List ℕ
circles_text reasons = flat_map circle_text (circles_among reasons)

-- ---- those that don't wait

-- how many processes can go on
abbrev pub able_words : ℕ → List ℕ
able_words n = codes "AND " ++ decimal n ++ (if nat_eq n 1 then codes " PROCESS CAN GO ON\n" else codes " PROCESSES CAN GO ON\n")

-- a line of that, where some can go on and others wait
abbrev pub able_text : List Reason → ℕ → List ℕ
able_text [] n = []
able_text (r ∷ rs) n = if nat_eq n 0 then [] else able_words n

-- ---- all of them

abbrev pub reasons_text : Units → List Reason → List ℕ
reasons_text program reasons = flat_map (reason_text program reasons) reasons ++ circles_text reasons
