-- The lemmas that several proofs need, a file for each subject.
pub mod Common
pub mod Prefixes
pub mod Ranks
pub mod Walks
pub mod Collecting
pub mod Answers
pub mod Sums
pub mod Rule
pub mod Seats
pub mod Places
pub mod Opens
pub mod FirstNode
pub mod Slacks
pub mod OneAnswer
pub mod Sets
pub mod RulingOut
pub mod Ordering
