-- Only contracts inside this crate cite these.
pub mod Counted
