pub mod Numbers
pub mod Asked
pub mod Program
pub mod Jobs
pub mod Explanations
pub mod Table
