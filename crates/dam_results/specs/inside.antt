-- Only contracts inside this crate cite these.
pub mod NineFields
pub mod Reader
pub mod Writer
pub mod Cleared
