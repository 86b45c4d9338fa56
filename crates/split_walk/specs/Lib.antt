-- Definitions that the contracts cite: the walks of a split.
pub mod Walk
