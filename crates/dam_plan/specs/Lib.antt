pub mod Limits
pub mod Plan
