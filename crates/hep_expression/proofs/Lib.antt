pub mod Decimals
pub mod Leaves
pub mod Chains
pub mod Sound
pub mod Complete
pub mod Worked
pub mod Labels
