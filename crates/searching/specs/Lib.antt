-- What the searching crate means: what a search finds in a sample, what it refuses, what is left in the lent buffers, the claim over all feeds and searches, and what the search of a
-- stretch is.
pub mod Finding
pub mod Refusal
pub mod Pass
pub mod Search
pub mod AnyStore
pub mod Claim
pub mod Stretches
pub mod Reversed
pub mod Boards
pub mod Examples
