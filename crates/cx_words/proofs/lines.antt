pub mod ChoiceLemmas
pub mod Faultless
pub mod NameTexts
pub mod ValueLemmas
pub mod Walks
