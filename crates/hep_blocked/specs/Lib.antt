pub mod WaitQueues
pub mod Waiting
pub mod QueueInvariant
pub mod Numbers
pub mod Rosters
pub mod Needs
pub mod NeededCells
pub mod RosterUpdates
