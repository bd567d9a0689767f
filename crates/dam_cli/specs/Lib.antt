pub mod Status
pub mod Run
pub mod Advice
pub mod Shown
