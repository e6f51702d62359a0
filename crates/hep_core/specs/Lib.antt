pub use Rattle.hep_state.specs.Words as StateWords
pub use Rattle.hep_views.specs.declared.whereabouts.Whereabouts
pub use Rattle.hep_views.specs.declared.listed.Listed
pub use Rattle.hep_views.specs.ProcessPositions
pub use Rattle.hep_commit.specs.Offers
pub mod Tickets
pub mod CoreValues
pub mod ProcessPlaces
pub mod SilentChoices
pub mod Commits
pub mod Waking
pub mod Invariant
