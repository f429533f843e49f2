pub mod Capable
