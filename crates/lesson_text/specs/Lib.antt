-- Definitions that the contracts cite.
pub mod Added
pub mod Number
pub mod Reason
