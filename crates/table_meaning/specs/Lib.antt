-- Definitions that the contracts cite: where each word lies, what state the tables hold, when they are well formed, what a call does.
pub mod Layout
pub mod Decode
pub mod Rule
pub mod Sound
pub mod Does
pub mod Larger
pub mod Proper
pub mod Keys
