-- What the sweeping crate means: a pair of the plan and what its test gives, the verdict, the progress from pair to pair, what is refused, the sweep as a
-- whole, and what its verdicts tell.
pub mod Pair
pub mod Verdict
pub mod Progress
pub mod Refusal
pub mod Sweep
pub mod Conclusions
pub mod Examples
