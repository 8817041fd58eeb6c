pub mod Prelude
pub mod PlaceTexts
pub mod PlaceTextLaws
