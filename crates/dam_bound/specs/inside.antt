-- Only contracts inside this crate cite these.
pub mod Levels
pub mod Families
pub mod BlockNumbers
pub mod Rivals
pub mod Counted
