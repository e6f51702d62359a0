pub use Rattle.hep_arena.specs.Gaps as ArenaGaps
pub use Rattle.hep_arena.specs.Holes as ArenaHoles
pub mod Rows
pub mod Addresses
pub mod Runs
pub mod Descriptors
pub mod FrameTree
pub mod Stacks
pub mod References
pub mod Words
