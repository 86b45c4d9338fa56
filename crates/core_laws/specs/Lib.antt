-- Definitions that the contracts cite: the steps that the calls are made of.
pub mod Steps
pub mod Leaves
pub mod Drops
pub mod Linking
pub mod Resolving
pub mod Chaining
pub mod Lives
pub mod Merging
pub mod Places
pub mod Renumbering
pub mod Loose
