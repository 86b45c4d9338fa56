-- Laws of the tables.
pub mod Puts
pub mod Tab
pub mod More
pub mod Behind
pub mod Chains
pub mod ChainsSplice
pub mod Frame
pub mod Unique
pub mod Careful
pub mod Proper
