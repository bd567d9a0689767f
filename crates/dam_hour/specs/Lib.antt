pub mod Limits
pub mod Execution
pub mod Price
pub mod Best
pub mod Clearing
pub mod Market
pub mod inside
