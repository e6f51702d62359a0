pub mod Nodes
pub mod Climbing
pub mod Listed
pub mod Numbering
mod WorkedLengths
pub mod Rows
pub mod Apart
pub mod Lists
pub mod Taking
pub mod Giving
pub mod Counting
pub mod Blocks
pub mod RowLengths
pub mod Changes
pub mod Limits
pub mod Loans
pub mod Arenas
pub mod Gaps
mod WorkedArena
pub mod Cases
