pub mod Caches
pub mod Chains
pub mod Tallies
pub mod Bookings
pub mod Writes
