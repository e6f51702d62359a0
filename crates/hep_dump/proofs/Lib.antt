pub use Rattle.hep_core.proofs.Histories
mod WorkedNames
mod Counting
mod Places
mod Worked
