pub mod TakenWarnings
pub mod Sets
pub mod Merging
pub mod Appending
pub mod NamesByLine
pub mod Between
pub mod Ordered
