-- Only contracts inside this crate cite these, and the invariants of its types.
pub mod TextLines
pub mod DeskDay
pub mod Intake
