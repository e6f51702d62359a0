pub mod Digits
mod Worked
