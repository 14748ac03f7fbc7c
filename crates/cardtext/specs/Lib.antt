pub mod Cleaning
pub mod Lines
pub mod Cursors
