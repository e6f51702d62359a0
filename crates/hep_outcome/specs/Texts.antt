-- The program's own lines: docs/MACHINE.md, "The program".
use Rattle.std.specs.Prelude.{ℕ, List, [], ◌∷◌, ◌++◌, codes, Option, Some, None}
use Rattle.std.specs.Fmt.{decimal}
use Rattle.hep_replay.specs.ChoiceStop.{ChoiceStop}
use Rattle.hep_replay.specs.ChoiceStop.TheVariants.{Halted, ArenaFull, StepLimit}

-- ---- refusals

abbrev pub name_text : List ℕ → List ℕ
name_text [] = []
name_text (c ∷ cs) = codes " NAME " ++ (c ∷ cs)

abbrev pub refusal_text : ℕ → ℕ → List ℕ → List ℕ
refusal_text number line name = codes "REFUSED " ++ decimal number ++ codes " LINE " ++ decimal line ++ name_text name ++ codes "\n"

-- ---- the texts of a whole run

-- the line for a stop that isn't the program's own
abbrev pub stop_text : Option ChoiceStop → List ℕ
stop_text None = []
stop_text (Some Halted) = []
stop_text (Some ArenaFull) = codes "STOPPED ARENA FULL\n"
stop_text (Some StepLimit) = codes "STOPPED STEP LIMIT\n"

-- the refusal of the k-th choice has k for its line
abbrev pub choice_text : ℕ → List ℕ
choice_text k = refusal_text 501 k []
