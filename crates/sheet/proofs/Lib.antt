pub mod Lengths
pub mod Splitting
pub mod SheetForms
pub mod SheetLaws
