pub mod Nodes
pub mod FrameTable
pub mod FrameEntry
pub mod Stacks
pub mod StackExit
