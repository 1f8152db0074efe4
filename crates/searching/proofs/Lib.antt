-- Laws that the functions' proofs cite, and the claim.
pub mod Filled
pub mod Layering
pub mod Walking
pub mod Refusing
pub mod Stored
pub mod AnyStore
pub mod Claiming
pub mod Stretches
pub mod Reversing
pub mod Winning
pub mod Boards
pub mod Examples
