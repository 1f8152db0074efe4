-- Laws shared by the proofs of the functions, and, where `pub`, by the crates above.
mod Squares
mod Doubles
mod Rooting
mod Shapes
mod Places
mod Patterns
pub mod Nearest
pub mod Halving
pub mod Parts
pub mod Sign
pub mod Defined
pub mod Less
mod Examples
