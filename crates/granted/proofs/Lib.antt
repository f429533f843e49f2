pub mod Says
pub mod Sound
pub mod Accepted
pub mod Read
pub mod Nothing
