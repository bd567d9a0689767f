-- Only contracts inside this crate cite these.
pub mod Locked
pub mod History
pub mod Keeper
pub mod Books
pub mod Shown
pub mod Tally
pub mod Entering
