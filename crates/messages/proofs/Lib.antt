pub mod Stepping
pub mod Lengths
pub mod Following
pub mod Agreeing
pub mod Counting
pub mod LawfulReads
pub mod Taken
pub mod Composed
