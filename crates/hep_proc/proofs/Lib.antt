pub mod Slabs
pub mod BegunActivations
mod Opened
mod Openings
mod ReturnedFrames
pub mod SeveralFrames
pub mod UnchangedFrames
mod Children
pub mod Levels
