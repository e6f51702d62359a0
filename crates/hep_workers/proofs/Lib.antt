pub mod Committed
pub mod SharedCores
mod Marks
mod SpanLooking
mod Splitting
mod SharedCalls
mod Reasons
mod GrowingHistories
mod AddedEntries
mod EntrySpans
mod SeveralEntries
