pub mod Cut
pub mod Labels
pub mod WellFormed
pub mod Text
pub mod Grammar
pub mod Joining
