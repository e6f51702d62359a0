pub mod Labels
pub mod Sweep
pub mod Ranges
pub mod Jumps
pub mod Structure
pub mod Nesting
pub mod Successors
pub mod Loops
