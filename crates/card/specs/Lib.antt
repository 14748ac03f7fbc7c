pub mod Bytes
pub mod Records
pub mod Refusals
pub mod Scans
