mod Children
pub mod Openings
pub mod Lookups
pub mod Distinct
pub mod RowOwners
pub mod FrameOwners
pub mod BlockOwners
pub mod Members
pub mod Numbers
pub mod NamedNumbers
pub mod AddressedVariables
pub mod CountedLoops
pub mod Variables
pub mod FrameBounds
pub mod ArrayExtents
pub mod Activations
pub mod AddedNames
