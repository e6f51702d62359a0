pub mod Tables
pub mod Statements
pub mod Functions
pub mod Lists
pub mod Meanings
pub mod Parts
pub mod Evaluation
pub mod Bounds
