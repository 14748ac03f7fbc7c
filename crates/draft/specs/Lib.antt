pub mod Drafts
pub mod Keeping
