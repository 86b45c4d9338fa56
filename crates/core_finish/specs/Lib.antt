-- Definitions that the contracts cite.
pub mod Restful
pub mod Listing
