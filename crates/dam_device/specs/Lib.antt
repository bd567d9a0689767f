pub mod Device
pub mod inside
