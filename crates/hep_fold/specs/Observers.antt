-- What an observer of turns is given, and what it knows after them: docs/ARCHITECTURE.md, "Forms".
use Rattle.std.specs.Prelude.{◌≡◌, ◌≢◌, ◌+◌, ◌-◌, ◌^◌, ◌<◌, ◌≤◌, ℕ, List, [], ◌∷◌, ◌++◌, length, IsSome, None}
use Rattle.hep_machine.specs.Words.{AreSteps, Units, is_held, layout_of, run, step}
use Rattle.hep_advance.specs.SilentRuns.{CanTakeTurns}
use Rattle.hep_fast.specs.declared.decoded_image.DecodedImage.{DecodedImage}
use Rattle.hep_state.specs.declared.core_state.CoreState.{CoreState}
use Rattle.hep_state.specs.Words.{IsMachineAfter}
use Rattle.hep_fold.specs.declared.turn_row.TurnRow.{TurnRow}
use Rattle.hep_fold.specs.Turns.{number_after, processes, turns_in_row}
use Rattle.hep_fold.specs.ReplayMachines.{most_turns}

-- the number of cells of an arena, and all turns that are made, each with the number of its entry
pub record Replay : Type 0 where
  pub cells : ℕ
  pub turns : List (ℕ × ℕ)

-- a machine keeps the state after the turns of these processes, and the turns left can be made
pub record IsUnderWay (program : Units) (replay : Replay) (made : List ℕ) (left : List (ℕ × ℕ)) (m : CoreState) : Type 0 where
  pub after : IsMachineAfter program replay.cells made m
  pub turns : processes replay.turns ≡ made ++ processes left
  pub steps : AreSteps program (run program made) (processes left)
  pub laid : IsSome (layout_of program replay.cells is_held (processes replay.turns))
  pub few : length replay.turns ≤ most_turns

module _ {O S : Type 0} (knows : Units → Replay → List ℕ → O → S → Type 0) (program : Units) (m : CoreState) (o : O) where
  -- an observer knows this of the turns so far, and these turns come next
  pub record AreTurnsAhead (next : List (ℕ × ℕ)) : Type 0 where
    pub replay : Replay
    pub made : List ℕ
    pub left : List (ℕ × ℕ)
    pub seen : S
    pub under_way : IsUnderWay program replay made (next ++ left) m
    pub known : knows program replay made o seen

  -- an observer knows this of the turns before the last one; that was a step of process p, of the entry with this
  -- number, before which the observer noted this
  pub record IsMade {L : Type 0} (notes : Units → Replay → List ℕ → ℕ → ℕ → O → L → Type 0) (entry p : ℕ) (look : L) : Type 0 where
    pub replay : Replay
    pub made : List ℕ
    pub left : List (ℕ × ℕ)
    pub seen : S
    pub stepped : step program p (run program made) ≢ None
    pub under_way : IsUnderWay program replay (made ++ p ∷ []) left m
    pub known : knows program replay made o seen
    pub noted : notes program replay made entry p o look

-- the turns of a row
abbrev pub row_turns : TurnRow → List (ℕ × ℕ)
row_turns row = turns_in_row row.apart row.entry row.process row.count

-- the row after its first n turns
abbrev pub later_row : TurnRow → ℕ → TurnRow
later_row row n = record row { entry = number_after row.apart row.entry n; count = row.count - n }

-- turns of a process can be made at once, as many as are in the row
pub record CanGoAtOnce (tabled : DecodedImage) (row : TurnRow) (m : CoreState) : Type 0 where
  pub turn : CanTakeTurns tabled row.process m
  pub countable : m.activations + row.count < 2 ^ 64
