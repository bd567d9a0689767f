-- Only contracts inside this crate cite these.
pub mod Volumes
pub mod Ladder
pub mod Edge
