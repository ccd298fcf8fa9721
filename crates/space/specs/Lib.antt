pub mod Meaning
pub mod Calls
pub mod Cache
pub mod Frames
pub mod Memory
pub mod Setups
