-- Laws that the functions' proofs cite, and the theorems.
pub mod Marking
pub mod Checking
pub mod Once
pub mod Tallying
pub mod Evaluating
pub mod Agreeing
pub mod Trained
pub mod Unrefused
pub mod Reversing
pub mod Splitting
pub mod Planning
pub mod Sweeping
pub mod Examples
