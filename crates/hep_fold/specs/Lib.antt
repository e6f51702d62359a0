pub use Rattle.hep_fast.specs.declared.decoded_image.DecodedImage
pub use Rattle.hep_fast.specs.DecodedImages
pub use Rattle.hep_advance.specs.SilentRuns
pub mod Turns
pub mod ReplayMachines
pub mod Observers
pub mod Unobserved
pub mod Folds
