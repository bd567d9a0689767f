pub mod Fault
pub mod Engine
pub mod Device
pub mod Clear
pub mod Day
pub mod inside
