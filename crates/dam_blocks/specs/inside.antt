-- Only contracts inside this crate cite these.
pub mod Making
pub mod Better
pub mod Hindrances
pub mod Bits
