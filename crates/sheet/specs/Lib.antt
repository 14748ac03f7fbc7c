pub mod Texts
pub mod SheetText
pub mod Lines
