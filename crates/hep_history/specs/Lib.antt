pub mod Runs
pub mod Entries
pub mod StoredRuns
