mod Turns
mod Worked
mod BlockNames
pub mod FirstUnits
mod Associated
mod Bounded
mod Commons
mod EqualCells
mod Extents
mod FrameLines
mod HeldKeys
mod NodeKeys
mod Locals
mod Owned
mod Running
mod Slots
pub mod StackedKeys
mod Stacks
mod Valued
pub mod WaitTexts
