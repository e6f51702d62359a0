pub use Rattle.hep_advance.specs.SilentRuns as AdvanceSilentRuns
pub use Rattle.hep_state_text.specs.Lines as StateTextLines
pub use Rattle.hep_dump.specs.CoreStanding
pub use Rattle.hep_dump.specs.CoreValues
pub use Rattle.hep_dump.specs.Waiting
pub use Rattle.hep_dump.specs.Names
pub use Rattle.hep_dump.specs.Faults
pub mod ValueTexts
pub mod LineTexts
pub mod StepTexts
pub mod AccessedNames
pub mod Traces
pub mod NextOperations
pub mod NextAccesses
pub mod NamedVariables
pub mod Sites
pub mod Variables
pub mod VariableBreakpoints
pub mod ReductionTexts
pub mod PlainTexts
pub mod OperationTexts
pub mod StepObservations
