pub mod Ascii
pub mod AsciiTexts
pub mod Given
pub mod Names
