pub mod Naming
pub mod Finding
pub mod Tables
pub mod Sides
pub mod Rules
pub mod Blanks
