pub mod Records
pub mod Claims
