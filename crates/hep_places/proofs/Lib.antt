mod Narrowed
mod TakenValues
mod GatheredStarts
mod Lengths
mod Extents
mod InBlocks
mod FrameStarts
pub mod RightPlaces
mod FewCells
mod Accepted
mod InFrame
mod FinalStarts
mod Arguments
pub mod InitialRows
pub mod Grouping
pub mod Naming
pub mod Located
pub mod BlockOffsets
pub mod Owning
pub mod FrameFit
pub mod GroupValueTaking
