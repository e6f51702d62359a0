mod Worked
pub mod Expressions
pub mod Entries
pub mod CodePositions
pub mod ControlFlow
pub mod ProcessesInCode
pub mod Replies
pub mod OperandCounts
pub mod BoundValues
pub mod ListLengths
pub mod Dimensions
pub mod Sources
mod WorkedBounds
