-- the grammar
pub mod Characters
pub mod Expression
pub mod Label
-- the readers as functions on lists, which agree with the grammar
pub mod Reading
pub mod ReadingExpression
pub mod ReadingLabel
