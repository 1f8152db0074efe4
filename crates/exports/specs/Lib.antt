-- What the exported functions promise: records as numbers in lent slices, and each call in the words of the function that it wraps.
pub mod Records
pub mod Samplers
pub mod Findings
pub mod Calls
pub mod Single
