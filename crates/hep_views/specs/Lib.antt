pub mod StoredContents
pub mod Nodes
pub mod SeenWaits
pub mod MachineViews
pub mod CellOwners
pub mod ListedProcesses
pub mod ProcessPositions
