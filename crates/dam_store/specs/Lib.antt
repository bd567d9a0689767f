pub mod Limits
pub mod FileLines
pub mod Faults
pub mod StoreHistory
pub mod Store
pub mod inside
