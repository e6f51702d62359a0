mod Worked
pub mod IterationCounts
