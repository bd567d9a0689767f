-- Only contracts inside this crate cite these.
pub mod Supply
pub mod Segments
