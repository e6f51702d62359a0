pub mod NumberLemmas
pub mod ProgramLemmas
pub mod TableLemmas
mod Worked
