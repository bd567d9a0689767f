-- The lemmas of this crate.
pub mod Histories
pub mod Steps
pub mod Receipts
pub mod Beginnings
pub mod Adding
pub mod Numbers
pub mod Tallies
pub mod Permutations
pub mod Accounts
pub mod Days
pub mod Places
pub mod Standing
pub mod Counts
pub mod Settling
