-- The modules of lemmas, each after those that it uses.
pub mod Common
pub mod Keys
pub mod KeyBytes
pub mod Histories
pub mod Equality
pub mod RowFacts
pub mod ChangeFacts
pub mod GapFacts
pub mod FillFacts
pub mod PlaceFacts
pub mod LinkFacts
pub mod StepFacts
pub mod RowLess
pub mod FieldTexts
pub mod NumberTexts
