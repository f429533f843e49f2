pub mod Reach
pub mod Agree
pub mod Claims
pub mod Worked
