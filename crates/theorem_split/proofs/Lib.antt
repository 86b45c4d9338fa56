-- Laws of states.
pub mod Member
pub mod Homes
pub mod Walk
pub mod Leave
pub mod Numbers
pub mod Goals
pub mod Bonds
pub mod Ends
pub mod Split
pub mod Several
pub mod Enough
pub mod Sound
pub mod Paths
pub mod Exact
