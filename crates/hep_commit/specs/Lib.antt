pub use Rattle.hep_advance.specs.BreakpointRows as AdvanceBreakpointRows
pub use Rattle.hep_advance.specs.DecodedImages
pub use Rattle.hep_advance.specs.SilentRuns as Going
pub use Rattle.hep_private.specs.declared.ticket.TicketId
pub use Rattle.hep_private.specs.Segments
pub use Rattle.hep_private.specs.Batches
pub mod PrivateTurns
pub mod UndoneStores
pub mod PrivateScalars
pub mod OtherTurns
pub mod OwnCells
pub mod SegmentStarts
pub mod UndoLogs
pub mod TopSegments
pub mod Application
pub mod TurnsInPlace
pub mod BatchStarts
pub mod Offers
