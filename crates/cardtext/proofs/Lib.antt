pub mod Cleaning
pub mod Splitting
pub mod Together
