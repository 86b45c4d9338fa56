-- Definitions that the contracts cite: the split of an island.
pub mod Assign
pub mod Part
