-- The frames of activations, by their units: docs/MACHINE.md, "Layout".
use Rattle.std.specs.Prelude.{◌≡◌, ℕ}
use Rattle.hep_machine.specs.Words.{Units, Layout, State, unit_at, unit_of}
use Rattle.hep_arena.specs.Space.{Space}
use Rattle.hep_image.specs.Image.{IsUnitCode}
use Rattle.hep_state_text.specs.StoredVariables.{IsFrameOf}
use Rattle.hep_state_text.specs.declared.activations.NamedUnit.{NamedUnit}

-- the frame of an activation of a unit begins at a cell
pub record IsFrameAt (program : Units) (s : State) (layout : Layout) (a : ℕ) (unit : NamedUnit) (first : ℕ) (arena : Space) : Type 0 where
  pub is_of : IsFrameOf program s layout a first arena
  pub symbols : unit.symbols.now ≡ unit_at program (unit_of s a)
  pub code : IsUnitCode program (unit_of s a) unit.code.now

abbrev pub IsFrameSomewhere : NamedUnit → ℕ → Space → Type 0
IsFrameSomewhere unit first arena = (program : Units) × (s : State) × (layout : Layout) × (a : ℕ) × IsFrameAt program s layout a unit first arena
