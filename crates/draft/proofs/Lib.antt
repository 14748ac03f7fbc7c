pub mod Counted
pub mod Kept
