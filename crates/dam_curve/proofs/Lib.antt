-- The lemmas that several functions need.
pub mod Units
pub mod Parts
pub mod Supplying
pub mod Clearing
pub mod Sorting
pub mod PeriodSegments
pub mod ListsOfSegments
pub mod Adding
pub mod JointWelfare
pub mod LookingUp
pub mod Falling
