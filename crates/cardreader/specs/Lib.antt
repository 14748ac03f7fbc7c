pub mod Refused
pub mod CardTexts
pub mod Taking
pub mod Reading
pub mod Phases
pub mod Calls
pub mod CardForms
pub mod TextLaws
