-- Only contracts inside this crate cite these.
pub mod PrefixWalk
pub mod Conflicts
pub mod PriceWalk
pub mod WalkMethod
pub mod DecisionOrder
pub mod Work
pub mod Seats
pub mod Collect
