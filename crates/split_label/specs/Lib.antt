-- Definitions that the contracts cite.
pub mod Ends
pub mod Labelled
