-- Definitions that the contracts cite: one link, one body, one number.
pub mod Shift
