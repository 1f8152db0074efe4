pub mod Halves
pub mod Units
pub mod Whole
pub mod Root
pub mod Score
