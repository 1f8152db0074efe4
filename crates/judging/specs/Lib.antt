-- What the judging crate means: when a list is an order of the bins, what a check refuses, what an evaluation counts and answers, the parts of a
-- recording, and the plan of a sweep.
pub mod Permutation
pub mod Check
pub mod Evaluation
pub mod Training
pub mod Agreement
pub mod Reversed
pub mod Split
pub mod Plan
pub mod Examples
