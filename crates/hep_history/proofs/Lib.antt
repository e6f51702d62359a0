pub mod InRuns
mod Worked
