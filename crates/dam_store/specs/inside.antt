-- Only contracts inside this crate cite these, and the invariants of its types.
pub mod Reading
pub mod Shape
pub mod Synced
pub mod Writing
