pub mod Supply
pub mod JointPrice
pub mod Curve
pub mod Line
pub mod Point
pub mod PriceRange
pub mod inside
