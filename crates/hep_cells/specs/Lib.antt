pub mod Outcomes
pub mod Changes
