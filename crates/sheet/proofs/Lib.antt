-- Laws that the functions' proofs cite.
pub mod Writing
pub mod Reading
pub mod Fitting
pub mod Accepting
pub mod Examples
