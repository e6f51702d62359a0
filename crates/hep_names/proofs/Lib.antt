pub mod Notes
pub mod Statements
pub mod Firsts
pub mod Trees
pub mod Passes
pub mod Owned
pub mod PartsGiven
pub mod Referenced
pub mod Typed
pub mod ArraysAmong
pub mod News
mod Tables
mod Evaluations
pub mod ConstantsInOrder
mod BoundValues
pub mod CellCounts
pub mod Elements
pub mod BlockNames
