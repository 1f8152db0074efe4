pub mod Subsets
pub mod Best
pub mod Stepping
pub mod Choose
pub mod Pascal
pub mod Bits
pub mod Rank
pub mod Examples
