mod Rules
pub mod ListLoops
pub mod Lists
pub mod Targets
pub mod CharacterLoops
pub mod Parts
pub mod Items
pub mod EndLoops
pub mod Ends
pub mod Headers
pub mod Declarators
pub mod Commons
pub mod DataStatements
mod WorkedDeclarations
pub mod ConditionLoops
pub mod Executable
pub mod Declarations
pub mod Forms
pub mod Worked
pub mod LeftOut
pub mod Programs
pub mod UnitLoops
pub mod Faults
pub mod Outcomes
