pub use Rattle.hep_accepted_laws.specs.Actuals as AcceptedLawsActuals
pub use Rattle.hep_accepted_laws.specs.Instructions as AcceptedLawsInstructions
pub use Rattle.hep_accepted_laws.specs.PartlyEvaluated as AcceptedLawsPartlyEvaluated
pub use Rattle.hep_accepted_laws.specs.PlacedCode as AcceptedLawsPlacedCode
pub use Rattle.hep_accepted_laws.specs.WorkOrigins as AcceptedLawsWorkOrigins
pub mod DummyShapes
pub mod DummyContents
pub mod ActualArguments
pub mod FrameWriting
pub mod Calling
pub mod AdjustableBounds
