mod Counts
mod Messages
pub mod Fronts
pub mod NoHistory
pub mod Outcomes
pub mod LargeSources
mod RefusalNotes
mod DiagnosedRefusals
mod Worked
mod WorkedDiagnostics
pub mod Wanted
