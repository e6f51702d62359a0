pub mod Wants
pub mod QueueAdding
pub mod Wanting
pub mod QueueInvariants
pub mod Numbering
pub mod QueueRemoving
pub mod RanksAbove
mod Worked
pub mod Bits
pub mod Listed
mod WorkedNumbers
mod WorkedRosters
pub mod Waiting
pub mod UnchangedNeeds
pub mod TouchedUnits
pub mod HeldUnits
pub mod RankPlaces
pub mod NeededCells
pub mod Members
pub mod LivingProcesses
pub mod Waking
pub mod KeptNeeds
pub mod Ranks
pub mod Rosters
