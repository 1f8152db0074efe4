-- Laws that the functions' proofs cite.
pub mod Cutting
pub mod Comparing
pub mod Refusing
pub mod Agreeing
pub mod Replaying
pub mod Examples
