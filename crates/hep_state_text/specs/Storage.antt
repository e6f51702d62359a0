-- The arena and the image that lines are made from: docs/ARCHITECTURE.md, "Forms".
use Rattle.std.specs.Prelude.{◌≡◌}
use Rattle.hep_state.specs.declared.core_state.CoreState.{CoreState}
use Rattle.hep_state_text.specs.declared.storage.StateStorage.{StateStorage}

-- the frames are those of a machine, and the names are those of the image's units
pub record IsStorageOf (storage : StateStorage) (m : CoreState) : Type 0 where
  pub frames : storage.frames.now ≡ m.frames
  pub symbols : storage.symbols.now ≡ storage.image.now
