pub mod Rules
pub mod ReadingRule
-- the grammar
pub mod Lists
pub mod Constant
pub mod Target
-- the readers as functions on lists, which agree with the grammar
pub mod ReadingLists
pub mod ReadingConstant
pub mod ReadingTarget
-- the grammar of statements, and their readers
pub mod Declaration
pub mod Statement
pub mod ReadingStatement
pub mod Program
pub mod ReadingProgram
