mod Powers
mod Arguments
pub mod Remainders
mod Worked
pub mod Frames
pub mod Replays
pub mod Changes
pub mod Others
pub mod Locations
pub mod CellStates
pub mod Purges
pub mod Ages
pub mod Held
pub mod ConstantShapes
