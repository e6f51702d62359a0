pub mod Sources
pub mod SerialRuns
mod SerialRules
pub mod Reported
mod WorkedConditions
mod WorkedEdges
mod WorkedDeclarations
mod WorkedRuns
mod WorkedWarnings
mod Rising
mod WorkedTrace
mod WorkedWhy
mod WorkedCover
mod WorkedDiff
