pub use Rattle.hep_core.specs.Offers as CoreOffers
pub mod Turns
pub mod SharedCores
pub mod Receipts
pub mod ReceiptMarks
pub mod Reports
pub mod LockedCalls
pub mod Faults
pub mod WorkBuffers
pub mod Spans
pub mod EntrySpans
