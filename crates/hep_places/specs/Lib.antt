pub mod StorageStarts
pub mod UnitPlaces
pub mod DummyArguments
pub mod FrameOwners
pub mod CellRows
pub mod InitialValues
pub mod GroupValues
pub mod MainFrame
