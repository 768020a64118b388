pub mod NumberOnce
pub mod RangeOnce
pub mod RulesOnce
pub mod SmallTexts
