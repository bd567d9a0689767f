pub use Rattle.dam_plan.specs.Limits
pub use Rattle.dam_plan.specs.Plan
pub mod Piece
pub mod Answer
pub mod Search
pub mod Words
pub mod inside
