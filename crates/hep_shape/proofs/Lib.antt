pub mod Extents
pub mod Columns
pub mod Counts
pub mod Numbers
mod Worked
