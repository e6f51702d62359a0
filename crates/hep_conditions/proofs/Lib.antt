pub mod Agreeing
pub mod First
pub mod Lines
pub mod Typing
pub mod FrameCells
mod Purged
