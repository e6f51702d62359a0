pub use Rattle.hep_event.specs.Traces as EventTraces
pub mod ProcessSteps
pub mod FirstDifferences
pub mod DifferenceLines
pub mod Differences
pub mod CellReadings
pub mod StepLogs
pub mod Sides
