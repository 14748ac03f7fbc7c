pub mod Comparing
pub mod Equality
pub mod Instances
pub mod Levels
pub mod Loops
