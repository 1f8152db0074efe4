pub mod Chance
pub mod Entries
pub mod Zeros
pub mod Bracket
pub mod Examples
