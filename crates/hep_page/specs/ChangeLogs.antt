-- The turns of a history that are made again, and what they change: docs/ARCHITECTURE.md, "Forms".
use Rattle.std.specs.Prelude.{◌≡◌, ◌<◌, ℕ, List, [], ◌∷◌, ◌++◌, length}
use Rattle.std.specs.List.{flat_map}
use Rattle.hep_machine.specs.declared.event.Entry.{Entry}
use Rattle.hep_machine.specs.Words.{Progress, Units, progress_after, state_after}
use Rattle.hep_page.specs.Changes.{change_text, changes_from, parts_of, texts_of}
use Rattle.hep_page.specs.declared.change_log.ChangeLog.{ChangeLog}
use Rattle.hep_page.specs.declared.state_view.SourceNames.{SourceNames}
use Rattle.hep_replay.specs.Progress.{IsStanding}
use Rattle.hep_replay.specs.Replays.{HaveGaps, IsThere, most_entries, single_steps}
use Rattle.hep_state_text.specs.LineDisplay.{line_shown}

-- ---- turns that come next

-- an entry of one step or none can be made after others, for which the history has room, and each frame has its gap
pub record IsNext (program : Units) (cells : ℕ) (before : List Entry) (turn : Entry) : Type 0 where
  pub few : length before < most_entries
  pub single : single_steps turn.process turn.steps ≡ turn ∷ []
  pub there : IsThere program (state_after program before) turn.process turn.steps
  pub gaps : HaveGaps program cells (before ++ turn ∷ [])

-- each of these after those before it
abbrev pub AreNext : Units → ℕ → List Entry → List Entry → Type 0
AreNext program cells before [] = Unit {0}
AreNext program cells before (turn ∷ turns) = IsNext program cells before turn × AreNext program cells (before ++ turn ∷ []) turns

-- ---- what they change

-- the text of what turns change, from what is known before them
abbrev pub turns_text_from : Units → (ℕ → List ℕ) → Progress → List Entry → List ℕ
turns_text_from program shown x turns = flat_map change_text (changes_from program shown x turns)

-- after entries
abbrev pub turns_text : Units → (ℕ → List ℕ) → List Entry → List Entry → List ℕ
turns_text program shown before turns = turns_text_from program shown (progress_after program before) turns

-- after the turns so far
abbrev pub changes_in : SourceNames → ChangeLog → List Entry → List ℕ
changes_in known log turns =
    turns_text_from log.core.core.program (line_shown known.lines.now) (progress_after log.core.core.program log.core.core.history) turns

-- the turns left come next, and the parts are those of what everything holds
pub record IsNoting (known : SourceNames) (log : ChangeLog) (left : List Entry) : Type 0 where
  pub standing : IsStanding log.core.core
  pub next : AreNext log.core.core.program log.core.core.cells log.core.core.history left
  pub symbols : known.symbols.now ≡ log.core.core.program
  pub parts : texts_of log.parts
      ≡ parts_of log.core.core.program (line_shown known.lines.now) (progress_after log.core.core.program log.core.core.history)
