pub use Rattle.hep_fast.specs.DecodedImages
pub mod SilentRuns
pub mod RunsToBreakpoints
pub mod BreakpointRows
