-- What the layered search stands on: one store of all-set counts, the bins worked out from it, and the run of a candidate.
pub mod Store
pub mod Settle
pub mod Gather
pub mod Run
pub mod Examples
