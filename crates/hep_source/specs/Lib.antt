pub mod Names
pub mod Units
pub mod Tree
pub mod Defaults
pub mod NodeTree
pub mod TreeCode
pub mod NodeSizes
