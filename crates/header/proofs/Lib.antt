pub mod Given
pub mod Taken
pub mod Refusals
pub mod Numbers
