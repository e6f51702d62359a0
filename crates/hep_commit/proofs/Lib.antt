pub use Rattle.hep_advance.proofs.RunsToBreakpoint as AdvanceRunsToBreakpoint
pub use Rattle.hep_state.proofs.BindingCalls
pub use Rattle.hep_advance.proofs.Pushed
mod StoresInFrame
pub mod Runs
mod OperandRoom
mod NextPrivate
mod Turns
pub mod Lists
mod BatchStores
pub mod SavedCells
mod PassedVariables
mod UnchangedSaves
mod OwnedCells
pub mod OwnLoops
pub mod WhatIsRead
mod OtherTurns
pub mod PutBackCells
pub mod OwnLoopCells
pub mod OwnReads
pub mod Copies
pub mod Restored
pub mod BatchStarts
pub mod StandingProcesses
pub mod AppliedSegments
pub mod AfterSegments
pub mod Parts
mod InPlace
mod TurnInPlace
mod RunInPlace
mod Worked
