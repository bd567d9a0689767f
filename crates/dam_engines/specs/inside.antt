-- Only contracts inside this crate cite these.
pub mod Reading
pub mod Watch
