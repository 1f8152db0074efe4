pub mod Binomial
pub mod Rows
pub mod Summing
pub mod Bracketing
pub mod InPlace
pub mod Filling
pub mod Answering
pub mod Examples
