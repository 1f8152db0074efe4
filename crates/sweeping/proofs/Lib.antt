-- Laws that the functions' proofs cite, and the theorems.
pub mod Plans
pub mod Refusals
pub mod Judging
pub mod Testing
pub mod Progressing
pub mod Answering
pub mod Concluding
pub mod Examples
