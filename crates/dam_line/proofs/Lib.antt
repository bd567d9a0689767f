pub mod Accepted
pub mod Numbers
pub mod Program
pub mod Ranges
