pub mod Found
pub mod Entries
pub mod Walked
pub mod Accepted
pub mod Written
pub mod Filled
pub mod Again
