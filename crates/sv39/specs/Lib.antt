pub mod Entries
pub mod Walks
pub mod Tables
pub mod Writes
pub mod Setup
pub mod Invariants
pub mod Examples
pub mod Spaces
