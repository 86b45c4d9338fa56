-- Laws of the waiting split.
pub mod Pending
