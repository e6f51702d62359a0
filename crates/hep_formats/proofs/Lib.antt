pub mod Strings
mod WorkedStrings
mod Appended
mod WorkedObjects
pub mod Ranges
pub mod Ends
pub mod Effects
pub mod Fronts
mod WorkedTimelines
pub mod Unmarked
mod WorkedColors
