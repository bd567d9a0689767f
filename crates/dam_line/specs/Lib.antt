pub mod Line
pub mod Options
