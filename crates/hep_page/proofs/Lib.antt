pub mod Joined
pub mod Edits
pub mod Same
pub mod Lead
mod StateViews
mod NextTurns
mod NotedTurns
pub mod PagesOfCores
pub mod Products
pub mod Reversed
