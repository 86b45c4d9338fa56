-- Definitions that the contracts cite.
pub mod Groups
pub mod Forest
