pub mod DrillLaws
pub mod DrillTexts
pub mod DrillWords
pub mod Grammars
pub mod NodeLaws
pub mod Whole
