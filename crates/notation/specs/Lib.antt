pub mod Stack
pub mod Text
