-- Laws of the split.
pub mod New
pub mod Room
pub mod Assign
pub mod Part
pub mod Check
