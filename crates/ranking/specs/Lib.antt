pub mod Order
pub mod Keys
pub mod Peak
pub mod Ranking
pub mod Examples
