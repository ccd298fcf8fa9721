pub mod Runs
pub mod Changes
pub mod Setup
pub mod Invariants
pub mod Spaces
