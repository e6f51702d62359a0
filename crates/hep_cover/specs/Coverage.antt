-- How often the statements of lines began in histories: docs/RUNS.md, "How often lines began".
use Rattle.std.specs.Prelude.{ℕ, ◌&&◌, not, Bool, true, false, if◌then◌else◌, List, [], ◌∷◌, replicate, Option, Some, None}
use Rattle.hep_machine.specs.declared.event.Entry.{Entry}
use Rattle.hep_machine.specs.Words.{Form, Statement, Units, is_executable, opening}
use Rattle.hep_source.specs.declared.statement.Form.TheVariants.{Else}
use Rattle.hep_cover.specs.StatementStarts.{operations_by_line, with_line}
use Rattle.hep_cover.specs.Counts.{counted_after}
unfoldable pub use Rattle.hep_fold.specs.Turns.{seen_along}
use Rattle.hep_fold.specs.Turns.{turns_from}

-- ---- counts: the number of times that a statement began, none where no statement is that can begin

-- a process is never at an ELSE
abbrev pub is_else : Form → Bool
is_else Else = true
is_else _ = false

abbrev pub can_begin : Form → Bool
can_begin f = is_executable f && not (is_else f)

abbrev pub unbegun_in_unit : List Statement → List (Option ℕ) → List (Option ℕ)
unbegun_in_unit [] counts = counts
unbegun_in_unit (s ∷ ss) counts = unbegun_in_unit ss (if can_begin s.form then with_line counts s.line (Some 0) else counts)

abbrev pub unbegun_in : Units → List (Option ℕ) → List (Option ℕ)
unbegun_in [] counts = counts
unbegun_in (unit ∷ units) counts = unbegun_in units (unbegun_in_unit unit counts)

-- of `count` lines
abbrev pub unbegun : Units → ℕ → List (Option ℕ)
unbegun program count = unbegun_in program (replicate count None)

-- ---- histories

-- with the turns of a history
abbrev pub counted_in : Units → List ℕ → List Entry → List (Option ℕ) → List (Option ℕ)
counted_in program operations history counts =
    seen_along program (counted_after program operations) (opening program) (turns_from 1 history) counts

abbrev pub counted_in_all : Units → List ℕ → List (List Entry) → List (Option ℕ) → List (Option ℕ)
counted_in_all program operations [] counts = counts
counted_in_all program operations (history ∷ histories) counts =
    counted_in_all program operations histories (counted_in program operations history counts)

-- of `count` lines
abbrev pub coverage : Units → ℕ → List (List Entry) → List (Option ℕ)
coverage program count histories = counted_in_all program (operations_by_line program count) histories (unbegun program count)
